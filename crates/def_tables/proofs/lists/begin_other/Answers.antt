use Rattle.std.proofs.Common.{ap}
use Rattle.std.specs.Map.{lookup}
use Rattle.indexmap.specs.IndexMap.{get}
use Rattle.def_ids.specs.Ids.{is_same_module}
use Rattle.def_bindings.specs.Content.{lists_by}
use Rattle.def_tables.proofs.ByModuleLemmas.{lists-begun}
use Rattle.def_tables.proofs.ResultLemmas.{OnErr_from}
use Rattle.def_tables.proofs.lists.begin_other.Goals as goal

pub returns-clause-done : goal.returns-clause-done
returns-clause-done g c =
    lists-begun (λ v. v.items) (get is_same_module c.args.others.now) (get is_same_module c.insert.new.self) c.args.module c.args.list c.requires c.in_ok-insert.ensures.updates.0

pub returns-in_err-insert-clause-refused : goal.returns-in_err-insert-clause-refused
returns-in_err-insert-clause-refused g c =
    OnErr_from c.from_residual.result (ap (λ es. lists_by (λ q. lookup (is_same_module q) es) (λ v. v.items)) c.in_err-insert.ensures.err)
