-- Rounds: the turns of a pass in a row, and rounds in runs.
use Rattle.std.proofs.Common.{◌≡◌, ◌+◌, ℕ, Bool, true, false, List, [], ◌∷◌, Contains, refl}
use Rattle.std.specs.Prelude.{◌≢◌}
use Rattle.def_oracle.specs.Oracle.{Oracle}
use Rattle.def_rules.specs.Directives.{Stays, told}
use Rattle.def_rules.specs.Fallback.{IsQuiet}
use Rattle.def_rules.specs.Rounds.{begins, both, goes_on, leaves, none, single, stays}
use Rattle.def_rules.specs.State.{State, Task}
use Rattle.def_rules.specs.Waiting.{MacroDirective}
use Rattle.def_laws.specs.Runs.{AreRound, Collects, HoldRounds, InTurns}
use Rattle.def_laws.proofs.PassLaws.{collects_asked, collects_turn}
use Rattle.def_laws.proofs.StepsLaws.{collects_refl, collects_trans}

module _ {oracle : Oracle} where
  -- A pass

  -- none had its turn
  pub turns_begin : (s : State) → InTurns (collects_refl {oracle = oracle} [] s).runs s.macros false
  unfolding collects_refl
  turns_begin s = λ before. begins

  -- and more was done
  pub turns_on : {s t u : State} {tasks tasks' : List Task} {left : List MacroDirective} {moved : Bool} (run : Collects oracle [] s tasks t) → InTurns run.runs left moved → (more : Collects oracle tasks t tasks' u) → InTurns (collects_trans run more).runs left moved
  unfolding collects_trans
  turns_on run turns more = λ before. goes_on (turns before) (more.runs (run.runs before).0).1

  module _ {s t : State} {left : List MacroDirective} {moved : Bool} (run : Collects oracle [] s [] t) (d : MacroDirective) (turns : InTurns run.runs (d ∷ left) moved) where
    -- one stays
    pub turns_stay : Contains t.macros d → (told oracle t d).turn ≡ Stays → InTurns run.runs left moved
    turns_stay waits turn = λ before. stays [] d left (turns before) (record { idle = refl; waits = waits; stays = turn })

    -- one leaves
    pub turns_leave : (others : List MacroDirective) (stands : t.macros ≡ d ∷ others) → (told oracle t d).turn ≢ Stays → InTurns (collects_trans run (collects_asked oracle t [] d others stands)).runs left true
    unfolding collects_trans collects_asked collects_turn
    turns_leave others stands turn = λ before. leaves [] d left (turns before) _ (refl, turn)

  -- a pass in which one left is a round
  pub round_made : (s t : State) (run : Collects oracle [] s [] t) → IsQuiet oracle s → InTurns run.runs [] true → AreRound run.runs
  round_made s t run quiet turns = λ before. record { idle = refl; quiet = quiet; turns = turns before }

  -- Rounds in runs

  -- none
  pub holds_none : {tasks tasks' : List Task} {s t : State} (run : Collects oracle tasks s tasks' t) → HoldRounds run.runs 0
  holds_none run = λ before. none (run.runs before).1

  -- one
  pub holds_one : {s t : State} (run : Collects oracle [] s [] t) → AreRound run.runs → HoldRounds run.runs 1
  holds_one run round = λ before. single (run.runs before).1 (round before)

  -- those of one run and of the next
  pub holds_both : {ts us vs : List Task} {s t u : State} {m n : ℕ} (first : Collects oracle ts s us t) (second : Collects oracle us t vs u) → HoldRounds first.runs m → HoldRounds second.runs n → HoldRounds (collects_trans first second).runs (m + n)
  unfolding collects_trans
  holds_both first second holds more = λ before. both (holds before) (more (first.runs before).0)
