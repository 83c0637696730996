use Rattle.std.proofs.Common.{sym, ◌∙◌, ap}
use Rattle.indexmap.specs.IndexMap.{get}
use Rattle.def_ids.specs.Ids.{is_same_module}
use Rattle.def_bindings.specs.Content.{with_binding}
use Rattle.def_tables.proofs.ScopeTableLemmas.{content-set, content-same}
use Rattle.def_tables.proofs.ResultLemmas.{OnOk_then, OnErr_then, some_there}
use Rattle.def_tables.proofs.scope_table.ScopeTableBindingTable.set.Goals as goal

pub returns-in-Some-clause-done : goal.returns-in-Some-clause-done
returns-in-Some-clause-done g c =
    let there = sym c.in-Some.ensures.value in
    let after = ((c.get_mut.follows.holds c.set.new.self).3 (some_there there)).0 in
    OnOk_then c.set.result c.set.ensures.done
    (λ r. content-set (get is_same_module c.reserve.new.self.rows) (get is_same_module (c.get_mut.follows.lender c.set.new.self)) c.args.module c.in-Some.row.now c.set.new.self there after c.args.name c.args.ns c.args.binding r c.set.ensures.unnamed c.set.ensures.edges
    ∙ ap (λ k. with_binding k c.args.module c.args.name c.args.ns c.args.binding) c.in_ok-reserve.ensures.same)

pub returns-in-Some-clause-refused : goal.returns-in-Some-clause-refused
returns-in-Some-clause-refused g c =
    let there = sym c.in-Some.ensures.value in
    let after = ((c.get_mut.follows.holds c.set.new.self).3 (some_there there)).0 in
    OnErr_then c.set.result c.set.ensures.refused
    (λ r. content-same (get is_same_module c.reserve.new.self.rows) (get is_same_module (c.get_mut.follows.lender c.set.new.self)) c.args.module c.in-Some.row.now c.set.new.self there after r c.set.ensures.unnamed c.set.ensures.edges
    ∙ c.in_ok-reserve.ensures.same)
