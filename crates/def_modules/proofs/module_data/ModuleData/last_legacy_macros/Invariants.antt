use Rattle.std.proofs.Common.{◌≡◌, take}
use Rattle.def_modules.specs.ScopeMaps.{last_macros}
use Rattle.def_modules.proofs.module_data.ModuleData.last_legacy_macros.Given as goal

abbrev pub invariant-loop-i : goal.invariant-loop-i
invariant-loop-i l = l.last.items ≡ last_macros (take l.i l.macros.entries)
