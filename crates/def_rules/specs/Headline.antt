-- The headline: what `collect_defs` answers ends a run of the machine.
use Rattle.std.specs.Prelude.{◌≡◌, true, false, []}
use Rattle.def_interner.specs.Session.{Session}
use Rattle.def_ids.specs.declared.ids.ModuleId.{ModuleId}
use Rattle.def_bindings.specs.declared.bindings.Slot.{Slot}
use Rattle.def_bindings.specs.Closure.{IsClosed, IsCoherent}
use Rattle.def_globs.specs.Raised.{IsRaisedAt}
use Rattle.def_rules.specs.Targets.{is_censored, leaves_out, target_of}
use Rattle.def_rules.specs.State.{IsBare, Setting, Moment, order}
use Rattle.def_rules.specs.Steps.{IsKeptAlong, Reaches}
use Rattle.def_rules.specs.Rounds.{IsOverLimit}
use Rattle.def_rules.specs.InTurn.{LeavesInTurn}
use Rattle.def_rules.specs.Start.{start}
use Rattle.def_rules.specs.Settled.{IsDeclared, WasPut, ExplicitStays, IsSettled, HasEveryNamespace}
use Rattle.def_rules.specs.Report.{Answer, IsAnswerOf, report}

-- a run, from its start to an end at which nothing is left to do
pub record Run (w : Setting) (before : Session) : Type 0 where
  pub end : Moment
  pub runs : Reaches w.oracle (start w before) end
  -- every reached item is handled, no call is left to be recorded, and no expansion to be walked
  pub done : end.tasks ≡ []
  pub bare : IsBare end.state

-- one moment of the run comes before another
pub record IsOnRun (w : Setting) (before : Session) (end a b : Moment) : Type 0 where
  pub begins : Reaches w.oracle (start w before) a
  pub goes_on : Reaches w.oracle a b
  pub ends : Reaches w.oracle b end

-- What is answered ends a run in which every reached item is handled, is closed, coherent and raised along the recorded globs, and, where the limit of rounds was not met,
-- has no import left over that resolves and no macro left over that gives a call; its diagnostics are the run's and those of the leftovers.
pub record Answers (w : Setting) (before after : Session) (answer : Answer) : Type 0 where
  pub run : Run w before
  pub session : run.end.state.session ≡ after
  pub answered : IsAnswerOf run.end.state answer
  -- what a module binds and an importer of it sees, the importer binds too, along each recorded edge
  pub closed : IsClosed (order run.end.state) (leaves_out run.end.state) answer.content
  -- what a glob bound that was recorded with one module of this map, that module binds too, to the same definition or unseen
  pub coherent : IsCoherent (order run.end.state) (leaves_out run.end.state) (target_of run.end.state.map.id run.end.state.targets) answer.content
  -- what a module binds and an importer of it sees would not raise what a glob, any, bound there to the same definition, along each recorded edge:
  -- of each place that the run keeps throughout, with the sources of the edges to it while these are still to be added, but in the root of a crate of procedural macros
  pub raised : (importer : ModuleId) (slot : Slot) → is_censored run.end.state importer ≡ false → IsKeptAlong run.runs importer slot → IsRaisedAt (order run.end.state) answer.content importer slot
  -- each explicit binding that was made stands at its place, or one made there before it does
  pub declared : IsDeclared run.end.events run.end.state.content
  -- and no explicit binding stands that was not made
  pub was_put : WasPut run.end.events run.end.state.content
  -- no explicit binding is ever replaced, and none removed but the function of a procedural macro
  pub explicit_stays : (a b : Moment) → IsOnRun w before run.end a b → ExplicitStays a b
  -- each macro that leaves what waits, by being asked, had waited where its part of the run began, at a moment at which nothing moved but macros
  pub in_turn : LeavesInTurn w.oracle (start w before) run.end run.runs
  -- the limit was met only where the run holds more rounds than that
  pub limit : answer.outcome.limit_met ≡ true → IsOverLimit w.oracle (start w before) run.end run.runs
  pub settled : answer.outcome.limit_met ≡ false → IsSettled w.oracle run.end.state
  -- each namespace of each recorded import is bound
  pub every_namespace : answer.outcome.limit_met ≡ false → HasEveryNamespace w.oracle run.end
  pub reported : answer.diagnostics ≡ report w.oracle run.end.state
