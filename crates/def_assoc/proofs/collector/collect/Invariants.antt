use Rattle.def_assoc.specs.ExpansionTrees.{lists_of, tree}
use Rattle.def_assoc.specs.Shown.{found_of, nodes_of, reading_of, unread}
use Rattle.def_assoc.specs.Work.{work}
use Rattle.def_assoc.proofs.TreesLemmas.{IsFound}
use Rattle.def_assoc.proofs.collector.collect.Given as goal

abbrev pub invariant-items : goal.invariant-items
invariant-items g l =
    let r = reading_of g.D.SourceDatabase.oracle l.world l.module_id in
    IsFound r (lists_of r (tree r (nodes_of l.fn.items))) (found_of l.found) (unread l.lists.items)

abbrev pub decreases-items : goal.decreases-items
decreases-items g l = work (unread l.lists.items)
