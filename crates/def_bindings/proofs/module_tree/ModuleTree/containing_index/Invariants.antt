use Rattle.std.proofs.Common.{◌≡◌, ◌+◌, drop}
use Rattle.def_bindings.specs.Tree.{after_index}
use Rattle.def_bindings.proofs.module_tree.ModuleTree.containing_index.Given as goal

-- the module is not among those that were passed
abbrev pub invariant-loop-i : goal.invariant-loop-i
invariant-loop-i l = l.i + after_index (drop l.i l.containing) l.start ≡ after_index l.containing l.start
