use Rattle.std.proofs.Common.{◌≡◌, drop}
use Rattle.def_modules.specs.Maps.{map_state}
use Rattle.def_rules.specs.Macros.{taking}
use Rattle.def_macros.proofs.macro_use.take_macros.Given as goal

abbrev pub invariant-brought : goal.invariant-brought
invariant-brought l = taking (drop l.taken-index l.brought) (map_state l.def_map) ≡ taking l.brought (map_state l.initial.def_map)
