use Rattle.std.proofs.Common.{subst}
use Rattle.def_collector.specs.Collector.{state_of}
use Rattle.def_rules.specs.Items.{declared_effect}
use Rattle.def_rules.specs.State.{State}
use Rattle.def_laws.proofs.RecordLaws.{on_ok}
use Rattle.def_laws.specs.Performs.{Performs}
use Rattle.def_collector.proofs.collector.DefCollector.declare.Goals as goal

pub returns : goal.returns
returns g c = on_ok c.define.result c.define.ensures (λ performs.
    let oracle = g.D.SourceDatabase.oracle c.args.db.now in
    let before : State = state_of c.args.self.now c.args.session.now in
    let d = c.args.declared in
    subst (λ vis. let effect = declared_effect before c.args.module_id d.name d.ns d.def vis in Performs oracle effect.tasks effect.state (state_of (record c.args.self.now { def_map = c.define.new.def_map; table = c.define.new.table }) c.args.session.now))
    c.resolve_visibility.ensures (performs oracle before))
