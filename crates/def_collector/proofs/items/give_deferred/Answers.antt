use Rattle.def_parts.specs.Sites.{site_of}
use Rattle.def_collector.specs.Collector.{state_of}
use Rattle.def_collector.proofs.GivenLemmas.{gave_nothing}
use Rattle.def_laws.proofs.RecordLaws.{on_ok}
use Rattle.def_collector.proofs.items.give_deferred.Goals as goal

pub returns-then-is_empty-clause-gave : goal.returns-then-is_empty-clause-gave
returns-then-is_empty-clause-gave g c =
    gave_nothing (g.D.SourceDatabase.oracle c.args.db.now) (state_of c.args.collector.now c.args.session.now) (site_of c.args.site.now) c.args.node.now (c.is_empty.ensures.none c.if-is_empty.true)

pub returns-clause-gave : goal.returns-clause-gave
returns-clause-gave g c = on_ok c.give_those_of.result c.give_those_of.ensures.gave (λ gave. gave (state_of c.args.collector.now c.args.session.now))
