use Rattle.std.proofs.Common.{sym, ◌∙◌, ap}
use Rattle.indexmap.specs.IndexMap.{get}
use Rattle.def_ids.specs.Ids.{is_same_module}
use Rattle.def_bindings.specs.Content.{with_unnamed}
use Rattle.def_tables.proofs.ScopeTableLemmas.{content-unnamed, content-same}
use Rattle.def_tables.proofs.ResultLemmas.{OnOk_then, OnErr_then, some_there}
use Rattle.def_tables.proofs.scope_table.ScopeTableBindingTable.set_unnamed.Goals as goal

pub returns-in-Some-clause-done : goal.returns-in-Some-clause-done
returns-in-Some-clause-done g c =
    let there = sym c.in-Some.ensures.value in
    let after = ((c.get_mut.follows.holds c.set_unnamed.new.self).3 (some_there there)).0 in
    OnOk_then c.set_unnamed.result c.set_unnamed.ensures.done
    (λ r. content-unnamed (get is_same_module c.reserve.new.self.rows) (get is_same_module (c.get_mut.follows.lender c.set_unnamed.new.self)) c.args.module c.in-Some.row.now c.set_unnamed.new.self there after c.args.item c.args.vis r c.set_unnamed.ensures.bindings c.set_unnamed.ensures.edges
    ∙ ap (λ k. with_unnamed k c.args.module c.args.item c.args.vis) c.in_ok-reserve.ensures.same)

pub returns-in-Some-clause-refused : goal.returns-in-Some-clause-refused
returns-in-Some-clause-refused g c =
    let there = sym c.in-Some.ensures.value in
    let after = ((c.get_mut.follows.holds c.set_unnamed.new.self).3 (some_there there)).0 in
    OnErr_then c.set_unnamed.result c.set_unnamed.ensures.refused
    (λ r. content-same (get is_same_module c.reserve.new.self.rows) (get is_same_module (c.get_mut.follows.lender c.set_unnamed.new.self)) c.args.module c.in-Some.row.now c.set_unnamed.new.self there after c.set_unnamed.ensures.bindings r c.set_unnamed.ensures.edges
    ∙ c.in_ok-reserve.ensures.same)
