use Rattle.std.proofs.Common.{◌≤◌, length}
use Rattle.item_tree.specs.TextOrder.{AreCut}
use Rattle.item_tree.proofs.text_order.are_cut.Given as goal

abbrev pub invariant-items : goal.invariant-items
invariant-items l = record { within : l.i ≤ length l.items; cut : AreCut l.items l.i }

abbrev pub decreases-items : goal.decreases-items
decreases-items l = l.i
