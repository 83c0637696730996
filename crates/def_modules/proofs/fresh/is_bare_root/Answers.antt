use Rattle.std.proofs.Common.{ap, subst, sym, ◌∙◌, length, [], ◌∷◌}
use Rattle.std.proofs.lemmas.List.{nil_from_length}
use Rattle.def_modules.specs.Fresh.{root_origin}
use Rattle.def_modules.proofs.BareLemmas.{HasNone, IsBare, bare_state, state_bare}
use Rattle.def_modules.proofs.FreshLemmas.{all_true, true_all, seq_empty, empty_seq, none_value, value_none}
use Rattle.def_modules.proofs.fresh.is_bare_root.Goals as goal

pub returns : goal.returns
returns c =
    let m = c.args.root.now in
    let origin = root_origin c.args.block in
    let tests = c.is_none.result ∷ c.is_root_origin.result ∷ c.is_public.result ∷ c.is_empty.result ∷ c.are_lists_empty.result ∷ c.is_empty-2.result ∷ c.is_empty-3.result ∷ c.is_rare_empty.result ∷ [] in (
      λ h.
          let all = all_true tests (sym c.are_all.ensures ∙ h) in
          let bare : IsBare m origin = record {
            name = none_value m.name c.is_none.result c.is_none.ensures all.0;
            origin = c.is_root_origin.ensures.0 all.1.0;
            vis = c.is_public.ensures.0 all.1.1.0;
            children = nil_from_length m.children.entries (c.is_empty.ensures.0 all.1.1.1.0);
            textual = subst HasNone c.as_ref.ensures (c.are_lists_empty.ensures.0 all.1.1.1.1.0);
            declarations = seq_empty m.scope.declarations c.is_empty-2.result c.is_empty-2.ensures all.1.1.1.1.1.0;
            impls = seq_empty m.scope.impls c.is_empty-3.result c.is_empty-3.ensures all.1.1.1.1.1.1.0;
            rare = c.is_rare_empty.ensures.0 all.1.1.1.1.1.1.1.0;
          } in
          bare_state m origin bare,
      λ h.
          let bare = state_bare m origin h in
          c.are_all.ensures ∙ true_all tests (
            value_none m.name c.is_none.result c.is_none.ensures bare.name,
            (
              c.is_root_origin.ensures.1 bare.origin,
              (
                c.is_public.ensures.1 bare.vis,
                (
                  c.is_empty.ensures.1 (ap length bare.children),
                  (
                    c.are_lists_empty.ensures.1 (subst HasNone (sym c.as_ref.ensures) bare.textual),
                    (
                      empty_seq m.scope.declarations c.is_empty-2.result c.is_empty-2.ensures bare.declarations,
                      (
                        empty_seq m.scope.impls c.is_empty-3.result c.is_empty-3.ensures bare.impls,
                        (
                          c.is_rare_empty.ensures.1 bare.rare,
                          tt,
                        ),
                      ),
                    ),
                  ),
                ),
              ),
            ),
          ),
    )
