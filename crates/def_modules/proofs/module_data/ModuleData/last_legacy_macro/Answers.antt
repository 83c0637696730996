use Rattle.std.proofs.Common.{ap, ◌∙◌}
use Rattle.def_modules.specs.Maps.{first_of_list}
use Rattle.def_modules.specs.ScopeMaps.{textual_of}
use Rattle.def_modules.proofs.module_data.ModuleData.last_legacy_macro.Goals as goal

pub returns : goal.returns
returns c = c.last_macro.ensures ∙ ap (λ macros. first_of_list (textual_of macros c.args.name)) c.as_ref.ensures
