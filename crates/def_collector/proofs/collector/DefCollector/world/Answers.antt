use Rattle.std.proofs.Common.{ap, ◌∙◌}
use Rattle.def_modules.specs.Maps.{facts_of}
use Rattle.def_sources.specs.Tables.{bound_by}
use Rattle.def_collector.specs.Collector.{state_of}
use Rattle.def_rules.specs.State.{world}
use Rattle.def_modules.specs.Locals.{local_view}
use Rattle.def_collector.proofs.collector.DefCollector.world.Goals as goal

pub returns : goal.returns
returns g c =
    let w = world (g.D.SourceDatabase.oracle c.args.db.now) (state_of c.args.self.now c.args.session.now) in
    ap (λ table. record w { map = record { facts = facts_of c.args.self.now.def_map; content = bound_by table }; local = local_view c.local.result.now }) c.table.ensures
    ∙ ap (λ local. record w { local = local }) c.local.ensures
