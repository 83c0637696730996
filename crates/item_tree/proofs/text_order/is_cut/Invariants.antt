use Rattle.std.proofs.Common.{◌≤◌, take, drop, length}
use Rattle.item_tree.specs.TextOrder.{IsWithin, IsCut, IsRising}
use Rattle.item_tree.proofs.text_order.is_cut.Given as goal

abbrev pub invariant-loop-c : goal.invariant-loop-c
invariant-loop-c l = record {
  after : l.low ≤ l.at;
  within : IsWithin l.items l.low l.at l.at;
  cut : IsCut l.items l.low (take l.c-index l.list);
  rest : IsRising (length l.items) l.at (drop l.c-index l.list);
}
