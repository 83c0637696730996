use Rattle.std.proofs.Common.{◌≤◌, ◌-◌}
use Rattle.item_tree.specs.TextOrder.{IsWithin}
use Rattle.item_tree.proofs.text_order.next_subtree.Given as goal

abbrev pub invariant-subtrees : goal.invariant-subtrees
invariant-subtrees l = record {
  after : l.from ≤ l.at;
  within : IsWithin l.items l.from l.at l.at;
  nearest : l.from ≤ l.to → IsWithin l.items l.from l.to l.to → l.at ≤ l.to;
}

abbrev pub decreases-subtrees : goal.decreases-subtrees
decreases-subtrees l = l.to - l.at
