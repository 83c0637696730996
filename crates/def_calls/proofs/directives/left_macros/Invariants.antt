use Rattle.std.proofs.Common.{◌≡◌, map, take}
use Rattle.def_calls.specs.Shown.{macros_in}
use Rattle.def_rules.specs.Report.{left_macro}
use Rattle.def_calls.proofs.directives.left_macros.Given as goal

abbrev pub invariant-directives : goal.invariant-directives
invariant-directives l = l.left.items ≡ map left_macro (macros_in (take l.i l.directives.items))
