use Rattle.std.proofs.Common.{ap, ◌∙◌}
use Rattle.def_modules.specs.Scopes.{module_state, with_textual, with_textual_of}
use Rattle.def_modules.proofs.LegacyLemmas.{pair_defined}
use Rattle.def_modules.proofs.module_data.ModuleData.define_legacy_macros.Goals as goal

pub loop-pair-preserved : goal.loop-pair-preserved
loop-pair-preserved c =
    let m = module_state c.args.self.now in
    c.in_ok-define_legacy_macro.ensures
    ∙ ap (with_textual _ _) c.loop-pair.invariant
    ∙ ap (λ t. with_textual_of t m) (pair_defined m.textual c.args.macros.now c.loop-pair.pair-index _ c.loop-pair-test.true)
