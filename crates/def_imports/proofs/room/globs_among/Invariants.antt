use Rattle.std.proofs.Common.{◌≤◌}
use Rattle.def_imports.proofs.room.globs_among.Given as goal

-- no more was counted than was looked at
abbrev pub invariant-loop-import : goal.invariant-loop-import
invariant-loop-import l = l.found ≤ l.import-index
