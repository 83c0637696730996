use Rattle.std.proofs.Common.{ℕ, ◌<◌, ◌≤◌, ◌+◌, ◌-◌, length}
use Rattle.item_tree.specs.TextOrder.{IsWithin}
use Rattle.item_tree.proofs.text_order.subtree_end.Given as goal

abbrev pub invariant-last : goal.invariant-last
invariant-last l = record {
  there : l.last < length l.items;
  after : l.i ≤ l.last;
  within : IsWithin l.items l.i l.last (l.last + 1);
  nearest : (to : ℕ) → l.i < to → IsWithin l.items l.i to to → l.last < to;
}

abbrev pub decreases-last : goal.decreases-last
decreases-last l = length l.items - l.last
