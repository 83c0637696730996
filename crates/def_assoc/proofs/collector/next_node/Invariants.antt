use Rattle.std.proofs.Common.{◌≡◌, length}
use Rattle.def_assoc.specs.Shown.{unread}
use Rattle.def_assoc.proofs.collector.next_node.Given as goal

-- the lists so far have no item left
abbrev pub invariant-lists : goal.invariant-lists
invariant-lists l = unread l.lists.items ≡ unread l.fn.lists.items

abbrev pub decreases-lists : goal.decreases-lists
decreases-lists l = length l.lists.items
