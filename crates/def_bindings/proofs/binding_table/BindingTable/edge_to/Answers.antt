use Rattle.std.proofs.Common.{◌<◌, ◌^◌, ◌∙◌, sym, arith, length}
use Rattle.def_bindings.proofs.SearchLemmas.{is_within, edge-here, edge-later, edge-nowhere}
use Rattle.def_bindings.proofs.binding_table.BindingTable.edge_to.Goals as goal

pub returns-then-eq : goal.returns-then-eq
returns-then-eq g c =
    let all = (g.Self.BindingTable.content c.args.self.now).edges c.args.module in
    edge-here all c.args.importer c.edges.index c.in-Some.edge c.in-Some.ensures.edge c.edges.invariant (sym c.eq.ensures ∙ c.if-eq.true)

pub overflow_add-index : goal.overflow_add-index
overflow_add-index g c =
    let all = (g.Self.BindingTable.content c.args.self.now).edges c.args.module in
    let h : c.edges.index < length all = is_within all c.edges.index c.in-Some.edge c.in-Some.ensures.edge in
    let few : length all < 2 ^ 64 = c.in-Some.ensures.few in
    omega arith

pub edges-smaller : goal.edges-smaller
edges-smaller g c =
    let all = (g.Self.BindingTable.content c.args.self.now).edges c.args.module in
    let h : c.edges.index < length all = is_within all c.edges.index c.in-Some.edge c.in-Some.ensures.edge in
    omega arith

pub edges-preserved : goal.edges-preserved
edges-preserved g c =
    let all = (g.Self.BindingTable.content c.args.self.now).edges c.args.module in
    edge-later all c.args.importer c.edges.index c.in-Some.edge c.in-Some.ensures.edge c.edges.invariant (sym c.eq.ensures ∙ c.if-eq.false)

pub returns : goal.returns
returns g c =
    let all = (g.Self.BindingTable.content c.args.self.now).edges c.args.module in
    edge-nowhere all c.args.importer c.edges.index c.in_default.ensures.edge c.edges.invariant
