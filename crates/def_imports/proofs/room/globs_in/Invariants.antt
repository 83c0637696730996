use Rattle.std.proofs.Common.{◌+◌, ◌≤◌, drop}
use Rattle.def_imports.specs.Room.{imports_written}
use Rattle.def_imports.proofs.room.globs_in.Given as goal

-- what was counted, with the imports that are left, is no more than all imports
abbrev pub invariant-loop-node : goal.invariant-loop-node
invariant-loop-node l = l.found + imports_written (drop l.node-index l.nodes) ≤ imports_written l.nodes
