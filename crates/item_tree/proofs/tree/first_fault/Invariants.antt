use Rattle.item_tree.specs.Trees.{IsSoundBelow}
use Rattle.item_tree.proofs.tree.first_fault.Given as goal

abbrev pub invariant-loop-i : goal.invariant-loop-i
invariant-loop-i l = IsSoundBelow l.items l.top l.i
