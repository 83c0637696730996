use Rattle.std.proofs.Common.{◌≡◌, take}
use Rattle.def_modules.specs.ScopeMaps.{defined_all}
use Rattle.def_modules.specs.Scopes.{module_state, with_textual_of}
use Rattle.def_modules.proofs.module_data.ModuleData.define_legacy_macros.Given as goal

abbrev pub invariant-loop-pair : goal.invariant-loop-pair
invariant-loop-pair l = module_state l.self ≡ with_textual_of (defined_all (module_state l.fn.self).textual (take l.pair-index l.macros)) (module_state l.fn.self)
