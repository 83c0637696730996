use Rattle.std.proofs.Common.{sym, ◌∙◌, ap}
use Rattle.indexmap.specs.IndexMap.{get}
use Rattle.def_ids.specs.Ids.{is_same_module}
use Rattle.def_bindings.specs.Content.{with_edge}
use Rattle.def_tables.proofs.ScopeTableLemmas.{content-edge, content-same}
use Rattle.def_tables.proofs.ResultLemmas.{OnOk_then, OnErr_then, some_there}
use Rattle.def_tables.proofs.scope_table.ScopeTableBindingTable.set_edge.Goals as goal

pub returns-in-Some-clause-done : goal.returns-in-Some-clause-done
returns-in-Some-clause-done g c =
    let there = sym c.in-Some.ensures.value in
    let after = ((c.get_mut.follows.holds c.set_edge.new.self).3 (some_there there)).0 in
    OnOk_then c.set_edge.result c.set_edge.ensures.done
    (λ r. content-edge (get is_same_module c.reserve.new.self.rows) (get is_same_module (c.get_mut.follows.lender c.set_edge.new.self)) c.args.module c.in-Some.row.now c.set_edge.new.self there after c.args.edge c.set_edge.ensures.distinct r c.set_edge.ensures.bindings c.set_edge.ensures.unnamed
    ∙ ap (λ k. with_edge k c.args.module c.args.edge) c.in_ok-reserve.ensures.same)

pub returns-in-Some-clause-refused : goal.returns-in-Some-clause-refused
returns-in-Some-clause-refused g c =
    let there = sym c.in-Some.ensures.value in
    let after = ((c.get_mut.follows.holds c.set_edge.new.self).3 (some_there there)).0 in
    OnErr_then c.set_edge.result c.set_edge.ensures.refused
    (λ r. content-same (get is_same_module c.reserve.new.self.rows) (get is_same_module (c.get_mut.follows.lender c.set_edge.new.self)) c.args.module c.in-Some.row.now c.set_edge.new.self there after c.set_edge.ensures.bindings c.set_edge.ensures.unnamed r
    ∙ c.in_ok-reserve.ensures.same)
