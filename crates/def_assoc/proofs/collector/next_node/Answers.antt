use Rattle.std.proofs.Common.{ap, sym, ◌∙◌}
use Rattle.def_assoc.specs.ExpansionTrees.{nodes_in}
use Rattle.def_assoc.proofs.WalkLemmas.{dropped, taken}
use Rattle.def_assoc.proofs.collector.next_node.Goals as goal

pub returns-in-Some-split_first : goal.returns-in-Some-split_first
returns-in-Some-split_first c =
    let list = c.in-Some.list in
    sym c.lists.invariant
    ∙ taken c.lists.lists.items c.pop.new.self.items c.push.new.self.items list
    (record { file = list.file; depth = list.depth; rest = c.in-Some-split_first.rest })
    (record { file = list.file; depth = list.depth; item = c.in-Some-split_first.item.now })
    c.in-Some.ensures.items (ap (nodes_in list.file list.depth) c.in-Some-split_first.ensures.cases.0) c.in_ok-push.ensures.items

pub lists-preserved : goal.lists-preserved
lists-preserved c =
    dropped c.lists.lists.items c.pop.new.self.items c.in-Some.list c.in-Some.ensures.items c.in_default-split_first.ensures.cases ∙ c.lists.invariant
