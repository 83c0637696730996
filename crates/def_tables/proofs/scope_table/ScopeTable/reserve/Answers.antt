use Rattle.std.proofs.Common.{sym, ◌∙◌}
use Rattle.indexmap.specs.IndexMap.{get}
use Rattle.def_ids.specs.Ids.{is_same_module}
use Rattle.def_tables.proofs.ScopeTableLemmas.{content-reserve}
use Rattle.def_tables.proofs.ResultLemmas.{none_there}
use Rattle.def_tables.proofs.scope_table.ScopeTable.reserve.Goals as goal

pub returns-in_ok-insert-clause-same : goal.returns-in_ok-insert-clause-same
returns-in_ok-insert-clause-same g c =
    let a = c.contains_key.ensures in
    let b = c.if-not-contains_key.true in
    content-reserve (get is_same_module c.args.self.now.rows) (get is_same_module c.insert.new.self) c.args.module c.new.result (none_there (sym a ∙ b)) c.in_ok-insert.ensures.updates.0 c.new.ensures
