use Rattle.std.proofs.Common.{ap, sym, ◌∙◌, length, [], ◌∷◌, not}
use Rattle.std.proofs.lemmas.List.{nil_from_length}
use Rattle.def_modules.proofs.EmptiedLemmas.{KnowsNothing, state_of_unknown, unknown_from_state}
use Rattle.def_modules.proofs.FreshLemmas.{all_true, true_all, none_value, value_none, not_true, true_not}
use Rattle.def_modules.proofs.fresh.is_new_crate.Goals as goal

pub returns : goal.returns
returns c =
    let k = c.args.krate.now in
    let tests = c.is_empty.result ∷ c.is_empty-2.result ∷ c.is_empty-3.result ∷ c.are_known_tools.result ∷ c.is_empty-4.result ∷ not k.rustc_coherence_is_core ∷ not k.no_core ∷ not k.no_std ∷ c.is_none.result ∷ [] in (
      λ h.
          let all = all_true tests (sym c.are_all.ensures ∙ h) in
          let parts : KnowsNothing k = record {
            exported = nil_from_length k.exported_derives.entries (c.is_empty.ensures.0 all.0);
            macro_of_function = nil_from_length k.fn_proc_macro_mapping.entries (c.is_empty-2.ensures.0 all.1.0);
            function_of_macro = nil_from_length k.fn_proc_macro_mapping_back.entries (c.is_empty-3.ensures.0 all.1.1.0);
            tools = c.are_known_tools.ensures.0 all.1.1.1.0;
            features = nil_from_length k.unstable_features.names.keys (c.is_empty-4.ensures.0 all.1.1.1.1.0);
            coherence = not_true k.rustc_coherence_is_core all.1.1.1.1.1.0;
            no_core = not_true k.no_core all.1.1.1.1.1.1.0;
            no_std = not_true k.no_std all.1.1.1.1.1.1.1.0;
            recursion_limit = none_value k.recursion_limit c.is_none.result c.is_none.ensures all.1.1.1.1.1.1.1.1.0;
          } in
          state_of_unknown k parts,
      λ h.
          let parts = unknown_from_state k h in
          c.are_all.ensures ∙ true_all tests (
            c.is_empty.ensures.1 (ap length parts.exported),
            (
              c.is_empty-2.ensures.1 (ap length parts.macro_of_function),
              (
                c.is_empty-3.ensures.1 (ap length parts.function_of_macro),
                (
                  c.are_known_tools.ensures.1 parts.tools,
                  (
                    c.is_empty-4.ensures.1 (ap length parts.features),
                    (
                      true_not k.rustc_coherence_is_core parts.coherence,
                      (
                        true_not k.no_core parts.no_core,
                        (
                          true_not k.no_std parts.no_std,
                          (
                            value_none k.recursion_limit c.is_none.result c.is_none.ensures parts.recursion_limit,
                            tt,
                          ),
                        ),
                      ),
                    ),
                  ),
                ),
              ),
            ),
          ),
    )
