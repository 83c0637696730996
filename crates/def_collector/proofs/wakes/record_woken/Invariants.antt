use Rattle.std.proofs.Common.{◌≤◌, []}
use Rattle.def_collector.specs.Collector.{state_of}
use Rattle.def_laws.specs.Runs.{Leads}
use Rattle.def_laws.specs.Turns.{turns_left}
use Rattle.def_collector.proofs.wakes.record_woken.Given as goal

abbrev pub invariant-woken : goal.invariant-woken
invariant-woken g l = record {
  run : Leads (g.D.SourceDatabase.oracle l.db) [] (state_of l.fn.collector l.session) [] (state_of l.collector l.session);
  turns : turns_left (state_of l.collector l.session) ≤ turns_left (state_of l.fn.collector l.session);
}

abbrev pub decreases-woken : goal.decreases-woken
decreases-woken g l = turns_left (state_of l.collector l.session)
