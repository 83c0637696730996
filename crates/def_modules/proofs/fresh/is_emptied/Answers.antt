use Rattle.std.proofs.Common.{ap, sym, ◌∙◌, length, [], ◌∷◌}
use Rattle.std.proofs.lemmas.List.{nil_from_length}
use Rattle.std.specs.Prelude.{map}
use Rattle.def_modules.specs.Scopes.{module_state}
use Rattle.def_modules.proofs.EmptiedLemmas.{HoldsNothing, state_from_nothing, nothing_from_state}
use Rattle.def_modules.proofs.FreshLemmas.{all_true, true_all, none_value, value_none}
use Rattle.def_modules.proofs.fresh.is_emptied.Goals as goal

pub returns : goal.returns
returns c =
    let d = c.args.map.now in
    let tests = c.is_one_root.result ∷ c.is_one_bare_root.result ∷ c.are_lists_empty.result ∷ c.is_empty.result ∷ c.is_empty-2.result ∷ c.is_none.result ∷ [] in (
      λ h.
          let all = all_true tests (sym c.are_all.ensures ∙ h) in
          let t0 = all.0 in
          let r0 = all.1 in
          let t1 = r0.0 in
          let r1 = r0.1 in
          let t2 = r1.0 in
          let r2 = r1.1 in
          let t3 = r2.0 in
          let r3 = r2.1 in
          let t4 = r3.0 in
          let r4 = r3.1 in
          let t5 = r4.0 in
          let parts : HoldsNothing d = record {
            parents = c.is_one_root.ensures.0 t0;
            modules = ap (map module_state) (sym c.as_slice.ensures.value) ∙ c.is_one_bare_root.ensures.0 t1;
            helpers = c.are_lists_empty.ensures.0 t2;
            macro_at = nil_from_length d.macro_by_position.entries (c.is_empty.ensures.0 t3);
            macro_use = nil_from_length d.macro_use_prelude.entries (c.is_empty-2.ensures.0 t4);
            prelude = none_value d.prelude c.is_none.result c.is_none.ensures t5;
          } in
          state_from_nothing d parts,
      λ h.
          let parts = nothing_from_state d h in
          c.are_all.ensures ∙ true_all tests (
            c.is_one_root.ensures.1 parts.parents,
            (
              c.is_one_bare_root.ensures.1 (ap (map module_state) c.as_slice.ensures.value ∙ parts.modules),
              (
                c.are_lists_empty.ensures.1 parts.helpers,
                (
                  c.is_empty.ensures.1 (ap length parts.macro_at),
                  (
                    c.is_empty-2.ensures.1 (ap length parts.macro_use),
                    (
                      value_none d.prelude c.is_none.result c.is_none.ensures parts.prelude,
                      tt,
                    ),
                  ),
                ),
              ),
            ),
          ),
    )
