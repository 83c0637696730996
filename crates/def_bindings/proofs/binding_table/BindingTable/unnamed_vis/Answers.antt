use Rattle.std.proofs.Common.{◌<◌, ◌^◌, ◌∙◌, sym, arith, length}
use Rattle.def_bindings.proofs.SearchLemmas.{is_within, vis-here, vis-later, vis-nowhere}
use Rattle.def_bindings.proofs.binding_table.BindingTable.unnamed_vis.Goals as goal

pub returns-then-eq : goal.returns-then-eq
returns-then-eq g c =
    let all = (g.Self.BindingTable.content c.args.self.now).unnamed c.args.module in
    vis-here all c.args.item c.items.index c.in-Some.found.0 c.in-Some.found.1 c.in-Some.ensures.item c.items.invariant (sym c.eq.ensures ∙ c.if-eq.true)

pub overflow_add-index : goal.overflow_add-index
overflow_add-index g c =
    let all = (g.Self.BindingTable.content c.args.self.now).unnamed c.args.module in
    let h : c.items.index < length all = is_within all c.items.index c.in-Some.found c.in-Some.ensures.item in
    let few : length all < 2 ^ 64 = c.in-Some.ensures.few in
    omega arith

pub items-smaller : goal.items-smaller
items-smaller g c =
    let all = (g.Self.BindingTable.content c.args.self.now).unnamed c.args.module in
    let h : c.items.index < length all = is_within all c.items.index c.in-Some.found c.in-Some.ensures.item in
    omega arith

pub items-preserved : goal.items-preserved
items-preserved g c =
    let all = (g.Self.BindingTable.content c.args.self.now).unnamed c.args.module in
    vis-later all c.args.item c.items.index c.in-Some.found.0 c.in-Some.found.1 c.in-Some.ensures.item c.items.invariant (sym c.eq.ensures ∙ c.if-eq.false)

pub returns : goal.returns
returns g c =
    let all = (g.Self.BindingTable.content c.args.self.now).unnamed c.args.module in
    vis-nowhere all c.args.item c.items.index c.in_default.ensures.item c.items.invariant
