use Rattle.def_collector.proofs.MacroPassLemmas.{ReportedSoFar}
use Rattle.def_collector.proofs.run.report_macros.Given as goal

abbrev pub invariant-left : goal.invariant-left
invariant-left g l = ReportedSoFar (g.D.SourceDatabase.oracle l.db) l.session l.initial.collector l.collector l.i
