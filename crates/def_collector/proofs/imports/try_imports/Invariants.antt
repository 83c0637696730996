use Rattle.def_collector.proofs.PassLemmas.{TriedSoFar}
use Rattle.def_collector.proofs.imports.try_imports.Given as goal

abbrev pub invariant-tried : goal.invariant-tried
invariant-tried g l = TriedSoFar (g.D.SourceDatabase.oracle l.db) l.session l.list l.initial.collector l.collector l.moved l.index
