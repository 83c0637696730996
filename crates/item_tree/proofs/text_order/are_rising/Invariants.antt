use Rattle.std.proofs.Common.{ℕ, ◌<◌, ◌+◌, length}
use Rattle.item_tree.specs.Trees.{children_at}
use Rattle.item_tree.specs.TextOrder.{IsRising}
use Rattle.item_tree.proofs.text_order.are_rising.Given as goal

abbrev pub invariant-loop-i : goal.invariant-loop-i
invariant-loop-i l = (j : ℕ) → j < l.i → IsRising (length l.items) (j + 1) (children_at l.items j)
