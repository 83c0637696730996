use Rattle.std.proofs.Common.{sym, ◌∙◌, ap}
use Rattle.indexmap.specs.IndexMap.{get}
use Rattle.def_ids.specs.Ids.{is_same_module}
use Rattle.def_tables.specs.ScopeTable.{content_by}
use Rattle.def_tables.proofs.ScopeTableLemmas.{content-remove, content-absent}
use Rattle.def_tables.proofs.ResultLemmas.{some_there}
use Rattle.def_tables.proofs.scope_table.ScopeTableBindingTable.remove.Goals as goal

pub returns-in-Some : goal.returns-in-Some
returns-in-Some g c =
    let there = sym c.in-Some.ensures.value in
    let after = ((c.get_mut.follows.holds c.remove.new.self).3 (some_there there)).0 in
    content-remove (get is_same_module c.args.self.now.rows) (get is_same_module (c.get_mut.follows.lender c.remove.new.self)) c.args.module c.in-Some.row.now c.remove.new.self there after c.args.name c.args.ns c.remove.ensures.distinct c.remove.ensures.bindings c.remove.ensures.unnamed c.remove.ensures.edges

pub returns-in-None : goal.returns-in-None
returns-in-None g c =
    ap (λ rows. content_by (get is_same_module rows)) c.get_mut.follows.holds-at-none ∙ content-absent (get is_same_module c.args.self.now.rows) c.args.module (sym c.in-None.ensures.value) c.args.name c.args.ns
