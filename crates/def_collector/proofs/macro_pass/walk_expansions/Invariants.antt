use Rattle.std.proofs.Common.{◌≡◌, ◌≤◌, []}
use Rattle.def_collector.specs.Collector.{state_of}
use Rattle.def_interner.specs.Session.{AddsLocations, session_of}
use Rattle.def_laws.specs.Depths.{waiting_work}
use Rattle.def_laws.specs.Runs.{CollectsCalmly}
use Rattle.def_collector.proofs.macro_pass.walk_expansions.Given as goal

abbrev pub invariant-expansions : goal.invariant-expansions
invariant-expansions g l = record {
  run : CollectsCalmly (g.D.SourceDatabase.oracle l.db) [] (state_of l.fn.collector l.fn.session) [] (state_of l.collector l.session);
  fewer : waiting_work (state_of l.collector l.session) ≤ waiting_work (state_of l.fn.collector l.fn.session);
  recorded : l.collector.inner_calls.items ≡ [];
  adds : AddsLocations (session_of l.fn.session) (session_of l.session);
}

abbrev pub decreases-expansions : goal.decreases-expansions
decreases-expansions g l = waiting_work (state_of l.collector l.session)
