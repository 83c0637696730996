-- Rounds: parts of a run in which each macro that waited has its turn.
use Rattle.std.specs.Prelude.{◌≡◌, ◌≢◌, ◌<◌, ℕ, ◌+◌, Bool, true, false, List, [], ◌∷◌, ◌++◌, Contains}
use Rattle.def_oracle.specs.Oracle.{Oracle}
use Rattle.def_rules.specs.Directives.{Stays, told}
use Rattle.def_rules.specs.Fallback.{IsQuiet}
use Rattle.def_rules.specs.State.{Moment}
use Rattle.def_rules.specs.Steps.{Reaches, Step, asks, here, one, join}
use Rattle.def_rules.specs.Waiting.{MacroDirective}

-- a step in which this macro leaves: it is asked, and is given a call, or its item is walked
abbrev pub Leaves : {oracle : Oracle} {a b : Moment} → Step oracle a b → MacroDirective → Type 0
Leaves {oracle = oracle} {a = a} (asks effect idle turn is) directive = (turn.directive ≡ directive) × ((told oracle a.state directive).turn ≢ Stays)
Leaves _ directive = ⊥

-- a moment at which this macro waits, and would stay: it is given no call, and its item is not walked
pub record StaysAt (oracle : Oracle) (a : Moment) (directive : MacroDirective) : Type 0 where
  pub idle : a.tasks ≡ []
  pub waits : Contains a.state.macros directive
  pub stays : (told oracle a.state directive).turn ≡ Stays

-- Turns in a run: the list is that of the macros which waited at its beginning and had no turn yet, the flag whether one has left.
pub data InRound (oracle : Oracle) (a : Moment) : (b : Moment) → Reaches oracle a b → List MacroDirective → Bool → Type 0 where
  begins : InRound oracle a a here a.state.macros false
  goes_on : {left : List MacroDirective} {moved : Bool} {b c : Moment} {run : Reaches oracle a b} → InRound oracle a b run left moved → (more : Reaches oracle b c) → InRound oracle a c (join run more) left moved
  stays : {moved : Bool} {b : Moment} {run : Reaches oracle a b} (before : List MacroDirective) (directive : MacroDirective) (behind : List MacroDirective)
      → InRound oracle a b run (before ++ directive ∷ behind) moved → StaysAt oracle b directive → InRound oracle a b run (before ++ behind) moved
  leaves : {moved : Bool} {b c : Moment} {run : Reaches oracle a b} (before : List MacroDirective) (directive : MacroDirective) (behind : List MacroDirective)
      → InRound oracle a b run (before ++ directive ∷ behind) moved → (step : Step oracle b c) → Leaves step directive → InRound oracle a c (join run (one step)) (before ++ behind) true

-- A round begins where nothing moves but macros. Each that waits there has its turn in it: it leaves, or stays at some moment; and one leaves.
pub record IsRound (oracle : Oracle) (a b : Moment) (run : Reaches oracle a b) : Type 0 where
  pub idle : a.tasks ≡ []
  pub quiet : IsQuiet oracle a.state
  pub turns : InRound oracle a b run [] true

-- a run that holds this many rounds, none overlapping
pub data Rounds (oracle : Oracle) : (a b : Moment) → Reaches oracle a b → ℕ → Type 0 where
  none : {a b : Moment} (run : Reaches oracle a b) → Rounds oracle a b run 0
  single : {a b : Moment} (run : Reaches oracle a b) → IsRound oracle a b run → Rounds oracle a b run 1
  both : {a b c : Moment} {first : Reaches oracle a b} {second : Reaches oracle b c} {m n : ℕ} → Rounds oracle a b first m → Rounds oracle b c second n → Rounds oracle a c (join first second) (m + n)

-- how many rounds a run may hold before it is cut off
abbrev pub round_limit : ℕ
round_limit = 8192

-- a run that holds more rounds than that
pub record IsOverLimit (oracle : Oracle) (a b : Moment) (run : Reaches oracle a b) : Type 0 where
  pub rounds : ℕ
  pub holds : Rounds oracle a b run rounds
  pub more : round_limit < rounds
