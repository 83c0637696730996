use Rattle.std.proofs.Common.{[], ◌∷◌, subst}
use Rattle.def_calls.specs.Shown.{macro_directive_of, written_attr_of}
use Rattle.def_collector.specs.Collector.{state_of}
use Rattle.def_laws.proofs.RecordLaws.{on_ok}
use Rattle.def_laws.specs.Runs.{Leads}
use Rattle.def_rules.specs.Attributes.{item_site}
use Rattle.def_rules.specs.State.{State, Visit}
use Rattle.def_collector.proofs.macro_pass.walk_again.Goals as goal

pub returns-clause-run : goal.returns-clause-run
returns-clause-run g c = on_ok c.walk_item.result c.walk_item.ensures.run (λ run.
    let oracle = g.D.SourceDatabase.oracle c.args.db.now in
    let s : State = state_of c.args.collector.now c.args.session.now in
    let site = item_site s (macro_directive_of c.args.directive) (written_attr_of c.args.written) in
    let t : State = state_of c.walk_item.new.collector c.walk_item.new.session in
    subst (λ dir. Leads oracle (Visit (record site { directory = dir }) c.args.written.item ∷ []) s [] t) c.in_ok-dir.ensures run)
