-- What passes over the macros leave, and how a run ends.
use Rattle.std.specs.Prelude.{◌≡◌, ◌<◌, ℕ, Bool, true, false, List, []}
use Rattle.def_oracle.specs.Oracle.{Oracle}
use Rattle.def_rules.specs.Fallback.{IsStuck}
use Rattle.def_rules.specs.Rounds.{round_limit}
use Rattle.def_rules.specs.State.{State, Task}
use Rattle.def_laws.specs.Depths.{waiting_work}
use Rattle.def_laws.specs.Finished.{IsAtRest}
use Rattle.def_laws.specs.Runs.{AreRound, Collects, HoldRounds, LeaveInTurn}

-- a pass over the macros made a round, in which they left in turn, and less waits
pub record MakesRound (oracle : Oracle) (s t : State) : Type 0 where
  pub run : Collects oracle [] s [] t
  pub in_turn : LeaveInTurn run.runs
  pub round : AreRound run.runs
  pub fewer : waiting_work t < waiting_work s

-- or all stay
pub record GetsStuck (oracle : Oracle) (s t : State) : Type 0 where
  pub run : Collects oracle [] s [] t
  pub in_turn : LeaveInTurn run.runs
  pub stuck : IsStuck oracle t
  pub as_much : waiting_work t ≡ waiting_work s

-- an item was given up, and less waits
pub record GivesUp (oracle : Oracle) (s t : State) : Type 0 where
  pub run : Collects oracle [] s [] t
  pub in_turn : LeaveInTurn run.runs
  pub fewer : waiting_work t < waiting_work s

-- so many rounds were made so far
pub record HasMade (oracle : Oracle) (s : State) (rounds : ℕ) (t : State) : Type 0 where
  pub run : Collects oracle [] s [] t
  pub in_turn : LeaveInTurn run.runs
  pub holds : HoldRounds run.runs rounds

-- a run ended: the limit of rounds was met, or nothing is left to resolve
pub record Ends (oracle : Oracle) (tasks : List Task) (s : State) (limit_met : Bool) (t : State) : Type 0 where
  pub run : Collects oracle tasks s [] t
  pub in_turn : LeaveInTurn run.runs
  pub rounds : ℕ
  pub holds : HoldRounds run.runs rounds
  pub limit : limit_met ≡ true → round_limit < rounds
  pub rest : limit_met ≡ false → IsAtRest oracle t
