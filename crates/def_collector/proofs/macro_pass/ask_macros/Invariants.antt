use Rattle.std.proofs.Common.{drop}
use Rattle.def_calls.specs.Shown.{macros_in}
use Rattle.def_collector.specs.Collector.{state_of}
use Rattle.def_collector.specs.Passes.{HadTurns}
use Rattle.def_interner.specs.Session.{AddsLocations, session_of}
use Rattle.def_collector.proofs.macro_pass.ask_macros.Given as goal

abbrev pub invariant-asked : goal.invariant-asked
invariant-asked g l = record {
  so_far : HadTurns (g.D.SourceDatabase.oracle l.db) (state_of l.fn.collector l.fn.session) (drop l.i (macros_in l.fn.collector.unresolved_macros.items)) l.moved (state_of l.collector l.session);
  adds : AddsLocations (session_of l.fn.session) (session_of l.session);
}
