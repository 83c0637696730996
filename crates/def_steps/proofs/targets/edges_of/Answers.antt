use Rattle.std.proofs.Common.{◌<◌, ◌^◌, arith, length}
use Rattle.def_tables.specs.NumberedTable.{all_edges}
use Rattle.def_steps.specs.Shown.{shown_edge}
use Rattle.def_steps.proofs.GatherLemmas.{listed_all, listed_more, within_index}
use Rattle.def_steps.proofs.targets.edges_of.Goals as goal

pub overflow_add-number : goal.overflow_add-number
overflow_add-number c =
    let all = all_edges c.args.table.now in
    let h : c.edges.number < length all = within_index all c.edges.number (c.in-Some.source, c.in-Some.edge) c.in-Some.ensures.edge in
    let few : length all < 2 ^ 64 = c.in-Some.ensures.few in
    omega arith

pub edges-smaller : goal.edges-smaller
edges-smaller c =
    let all = all_edges c.args.table.now in
    let h : c.edges.number < length all = within_index all c.edges.number (c.in-Some.source, c.in-Some.edge) c.in-Some.ensures.edge in
    omega arith

pub edges-preserved : goal.edges-preserved
edges-preserved c =
    listed_more shown_edge (all_edges c.args.table.now) c.edges.number (c.in-Some.source, c.in-Some.edge) c.edges.edges.items c.push.new.self.items c.in-Some.ensures.edge c.in_ok-push.ensures.items c.edges.invariant

pub returns : goal.returns
returns c = listed_all shown_edge (all_edges c.args.table.now) c.edges.number c.edges.edges.items c.in_default.ensures.edge c.edges.invariant
