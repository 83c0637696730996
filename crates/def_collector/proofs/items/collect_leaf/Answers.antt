use Rattle.def_collector.specs.Collector.{state_of}
use Rattle.def_laws.proofs.RecordLaws.{on_ok}
use Rattle.def_collector.proofs.items.collect_leaf.Goals as goal

pub returns-in-Use-clause-handled : goal.returns-in-Use-clause-handled
returns-in-Use-clause-handled g c = on_ok c.collect_use.result c.collect_use.ensures.handled (λ handled leaf. handled (g.D.SourceDatabase.oracle c.args.db.now) c.in-Use.is)

pub returns-in-ExternCrate-clause-handled : goal.returns-in-ExternCrate-clause-handled
returns-in-ExternCrate-clause-handled g c = on_ok c.collect_crate.result c.collect_crate.ensures.handled (λ handled leaf. handled c.in-ExternCrate.is)

pub returns-in-Impl-clause-handled : goal.returns-in-Impl-clause-handled
returns-in-Impl-clause-handled g c =
    on_ok c.define_impl.result c.define_impl.ensures.handled (λ handled leaf. handled (g.D.SourceDatabase.oracle c.args.db.now) (state_of c.args.collector.now c.args.session.now) c.in-Impl.is)

pub returns-in-Struct-clause-handled : goal.returns-in-Struct-clause-handled
returns-in-Struct-clause-handled g c = on_ok c.collect_struct.result c.collect_struct.ensures.handled (λ handled leaf. handled c.in-Struct.is)

pub returns-in-Function-clause-handled : goal.returns-in-Function-clause-handled
returns-in-Function-clause-handled g c = on_ok c.collect_function.result c.collect_function.ensures.handled (λ handled leaf. handled c.in-Function.is)
