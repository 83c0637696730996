-- Runs from some tasks to others, and what they keep.
use Rattle.std.specs.Prelude.{◌≡◌, ◌≤◌, ℕ, Bool, false, List, []}
use Rattle.def_ids.specs.declared.ids.ModuleId.{ModuleId}
use Rattle.def_bindings.specs.declared.bindings.Slot.{Slot}
use Rattle.def_oracle.specs.Oracle.{Oracle}
use Rattle.def_rules.specs.State.{State, Task, Event, Moment}
use Rattle.def_laws.specs.Depths.{AreVisitsBelow, Queues, deferred_work}
use Rattle.def_laws.specs.Sound.{IsRaisedIn, IsSound, KeepsSound}
use Rattle.def_laws.specs.Own.{Stands}
use Rattle.def_rules.specs.Steps.{Reaches, IsKeptAlong}
use Rattle.def_rules.specs.InTurn.{AllLeaveOf, LeavesInTurn}
use Rattle.def_rules.specs.Targets.{leaves_out}
use Rattle.def_rules.specs.Rounds.{InRound, IsRound, Rounds}
use Rattle.def_rules.specs.Waiting.{MacroDirective}

-- a moment with these tasks, this state and these events
abbrev pub at : List Task → State → List Event → Moment
at tasks state events = record { tasks = tasks; state = state; events = events }

-- from any moment with these tasks and this state a run leads to one with those
abbrev pub Runs : Oracle → List Task → State → List Task → State → Type 0
Runs oracle tasks s tasks' t = (before : List Event) → (now : List Event) × Reaches oracle (at tasks s before) (at tasks' t now)

-- a place that no edge would raise stays so, where each step of the run keeps it, and its module is not left out
abbrev pub StaysRaised : {oracle : Oracle} {tasks : List Task} {s : State} {tasks' : List Task} {t : State} → Runs oracle tasks s tasks' t → Type 0
StaysRaised {s = s} {t = t} runs = (before : List Event) (importer : ModuleId) (slot : Slot) → leaves_out s importer ≡ false → IsKeptAlong (runs before).1 importer slot
    → IsRaisedIn s importer slot → IsRaisedIn t importer slot

-- no macro leaves in a run, by being asked, but one of these
abbrev pub LeaveOf : {oracle : Oracle} {tasks : List Task} {s : State} {tasks' : List Task} {t : State} → List MacroDirective → Runs oracle tasks s tasks' t → Type 0
LeaveOf waited runs = (before : List Event) → AllLeaveOf waited (runs before).1

-- so does a run of whole waves: names that are closed and coherent along the globs stay so, and places stay raised
pub record Collects (oracle : Oracle) (tasks : List Task) (s : State) (tasks' : List Task) (t : State) : Type 0 where
  pub runs : Runs oracle tasks s tasks' t
  pub keeps : KeepsSound tasks s t
  pub raised : Stands tasks s → IsSound s → StaysRaised runs

-- and no macro leaves in it
pub record CollectsCalmly (oracle : Oracle) (tasks : List Task) (s : State) (tasks' : List Task) (t : State) : Type 0 where
  pub collects : Collects oracle tasks s tasks' t
  pub calm : LeaveOf [] collects.runs

-- nor has a macro or expansion its turn: no expansion comes or goes, nor a call that is to be recorded, what is deferred weighs no more, and what is queued ranks lower than what is visited
pub record Leads (oracle : Oracle) (tasks : List Task) (s : State) (tasks' : List Task) (t : State) : Type 0 where
  pub collects : Collects oracle tasks s tasks' t
  pub calm : LeaveOf [] collects.runs
  pub inner_calls : t.inner_calls ≡ s.inner_calls
  pub expansions : t.expansions ≡ s.expansions
  pub deferred : deferred_work t.deferred ≤ deferred_work s.deferred
  pub queues : (rank : ℕ) → AreVisitsBelow rank tasks → AreVisitsBelow rank tasks' × Queues rank s t

-- turns of macros in a run: these of its beginning had none yet, and whether one has left
abbrev pub InTurns : {oracle : Oracle} {s : State} {tasks : List Task} {t : State} → Runs oracle [] s tasks t → List MacroDirective → Bool → Type 0
InTurns {oracle = oracle} {s = s} {tasks = tasks} {t = t} runs left moved = (before : List Event) → InRound oracle (at [] s before) (at tasks t (runs before).0) (runs before).1 left moved

-- in a run macros leave in turn
abbrev pub LeaveInTurn : {oracle : Oracle} {tasks : List Task} {s : State} {tasks' : List Task} {t : State} → Runs oracle tasks s tasks' t → Type 0
LeaveInTurn {oracle = oracle} {tasks = tasks} {s = s} {tasks' = tasks'} {t = t} runs = (before : List Event) → LeavesInTurn oracle (at tasks s before) (at tasks' t (runs before).0) (runs before).1

-- a run is a round
abbrev pub AreRound : {oracle : Oracle} {s t : State} → Runs oracle [] s [] t → Type 0
AreRound {oracle = oracle} {s = s} {t = t} runs = (before : List Event) → IsRound oracle (at [] s before) (at [] t (runs before).0) (runs before).1

-- a run holds this many rounds
abbrev pub HoldRounds : {oracle : Oracle} {tasks : List Task} {s : State} {tasks' : List Task} {t : State} → Runs oracle tasks s tasks' t → ℕ → Type 0
HoldRounds {oracle = oracle} {tasks = tasks} {s = s} {tasks' = tasks'} {t = t} runs n = (before : List Event) → Rounds oracle (at tasks s before) (at tasks' t (runs before).0) (runs before).1 n
