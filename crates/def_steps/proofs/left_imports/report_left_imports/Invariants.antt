use Rattle.std.proofs.Common.{take}
use Rattle.def_modules.specs.Maps.{map_state}
use Rattle.def_crates.specs.Missing.{missing_in}
use Rattle.def_steps.proofs.LeftLemmas.{LeftSoFar}
use Rattle.def_steps.proofs.left_imports.report_left_imports.Given as goal

abbrev pub invariant-left : goal.invariant-left
invariant-left l =
    LeftSoFar (missing_in l.missing) (map_state l.initial.def_map) (map_state l.def_map) l.initial.imports.items l.imports.items l.initial.diagnostics.items l.diagnostics.items (take l.entry-index l.directives)
