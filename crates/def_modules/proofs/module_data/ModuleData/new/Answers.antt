use Rattle.std.proofs.Common.{ap, refl, ◌∙◌}
use Rattle.def_modules.specs.ScopeMaps.{textual_of}
use Rattle.def_modules.specs.Scopes.{empty_module, with_textual_of}
use Rattle.def_modules.proofs.module_data.ModuleData.new.Goals as goal

pub returns : goal.returns
returns c =
    c.with_legacy_macros.ensures
    ∙ ap (λ macros. with_textual_of (textual_of macros) (empty_module c.args.name c.args.origin c.args.visibility)) c.in_ok-none.ensures.ok
    ∙ rw c.new.ensures.empty refl
