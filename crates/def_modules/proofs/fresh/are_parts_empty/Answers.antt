use Rattle.std.proofs.Common.{ap, sym, ◌∙◌, length, [], ◌∷◌}
use Rattle.std.proofs.lemmas.List.{nil_from_length}
use Rattle.def_modules.proofs.BareLemmas.{AreBare, bare_parts, parts_bare}
use Rattle.def_modules.proofs.FreshLemmas.{all_true, true_all, seq_empty, empty_seq}
use Rattle.def_modules.proofs.fresh.are_parts_empty.Goals as goal

pub returns : goal.returns
returns c =
    let r = c.args.rare.now in
    let tests = c.is_empty.result ∷ c.is_empty-2.result ∷ c.is_empty-3.result ∷ c.is_empty-4.result ∷ c.is_empty-5.result ∷ c.is_empty-6.result ∷ c.is_empty-7.result ∷ [] in (
      λ h.
          let all = all_true tests (sym c.are_all.ensures ∙ h) in
          let bare : AreBare r = record {
            extern_crates = seq_empty r.extern_crates c.is_empty.result c.is_empty.ensures all.0;
            unnamed_consts = seq_empty r.unnamed_consts c.is_empty-2.result c.is_empty-2.ensures all.1.0;
            derive_impls = seq_empty r.builtin_derive_impls c.is_empty-3.result c.is_empty-3.ensures all.1.1.0;
            extern_blocks = seq_empty r.extern_blocks c.is_empty-4.result c.is_empty-4.ensures all.1.1.1.0;
            derives = nil_from_length r.derives.entries (c.is_empty-5.ensures.0 all.1.1.1.1.0);
            invoked = nil_from_length r.invocations.keys (c.is_empty-6.ensures.0 all.1.1.1.1.1.0);
            failed = nil_from_length r.failed.keys (c.is_empty-7.ensures.0 all.1.1.1.1.1.1.0);
          } in
          bare_parts r bare,
      λ h.
          let bare = parts_bare r h in
          c.are_all.ensures ∙ true_all tests (
            empty_seq r.extern_crates c.is_empty.result c.is_empty.ensures bare.extern_crates,
            (
              empty_seq r.unnamed_consts c.is_empty-2.result c.is_empty-2.ensures bare.unnamed_consts,
              (
                empty_seq r.builtin_derive_impls c.is_empty-3.result c.is_empty-3.ensures bare.derive_impls,
                (
                  empty_seq r.extern_blocks c.is_empty-4.result c.is_empty-4.ensures bare.extern_blocks,
                  (
                    c.is_empty-5.ensures.1 (ap length bare.derives),
                    (
                      c.is_empty-6.ensures.1 (ap length bare.invoked),
                      (
                        c.is_empty-7.ensures.1 (ap length bare.failed),
                        tt,
                      ),
                    ),
                  ),
                ),
              ),
            ),
          ),
    )
