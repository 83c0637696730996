use Rattle.std.proofs.Common.{sym, ap, ◌∙◌}
use Rattle.std.specs.Prelude.{position}
use Rattle.def_map.specs.Positions.{is_file_of, is_module_of_file}
use Rattle.def_map.proofs.IterLemmas.{position-map}
use Rattle.def_modules.specs.declared.module_data.ModuleData.{ModuleData}
use Rattle.def_modules.specs.Scopes.{module_state}
use Rattle.def_map.proofs.def_map.DefMap.module_of_file.Goals as goal

pub returns : goal.returns
returns c =
    c.first_in_file.ensures
    ∙ ap (position (λ (m : ModuleData). is_file_of c.args.file m.origin)) c.as_slice.ensures.value
    ∙ sym (position-map (is_module_of_file c.args.file) module_state c.args.self.now.data.modules.items)
