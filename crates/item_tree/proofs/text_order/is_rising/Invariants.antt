use Rattle.std.proofs.Common.{drop}
use Rattle.std.specs.Prelude.{◌↔◌}
use Rattle.item_tree.specs.TextOrder.{IsRising}
use Rattle.item_tree.proofs.text_order.is_rising.Given as goal

-- the list rises where its rest does
abbrev pub invariant-loop-c : goal.invariant-loop-c
invariant-loop-c l = IsRising l.bound l.next (drop l.c-index l.list) ↔ IsRising l.bound l.low l.list
