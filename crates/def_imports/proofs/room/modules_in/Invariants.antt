use Rattle.std.proofs.Common.{◌≤◌}
use Rattle.def_imports.proofs.room.modules_in.Given as goal

-- no more was counted than was looked at
abbrev pub invariant-loop-node : goal.invariant-loop-node
invariant-loop-node l = l.found ≤ l.node-index
