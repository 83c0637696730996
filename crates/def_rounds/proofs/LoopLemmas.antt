-- The loop over imports and macros: rounds, and what lies between them.
use Rattle.std.proofs.Common.{◌≡◌, ◌<◌, ◌+◌, ◌∙◌, ℕ, true, false, true≢false, Contains, [], sym, subst, arith}
use Rattle.def_interner.specs.Session.{AddsLocations, Session}
use Rattle.def_interner.specs.SessionLaws.{adds_trans}
use Rattle.def_oracle.specs.Oracle.{Oracle}
use Rattle.def_rules.specs.Fallback.{IsStuck}
use Rattle.def_rules.specs.Rounds.{round_limit}
use Rattle.def_rules.specs.Settled.{IsNoAttribute}
use Rattle.def_rules.specs.State.{State}
use Rattle.def_rules.specs.Waiting.{MacroDirective}
use Rattle.def_laws.specs.Finished.{IsAtRest}
use Rattle.def_laws.specs.Runs.{Collects, HoldRounds, LeaveInTurn, Leads}
use Rattle.def_laws.proofs.RoundsLaws.{holds_both, holds_none, holds_one}
use Rattle.def_laws.proofs.InTurnLaws.{turn_both, turn_empty}
use Rattle.def_laws.proofs.StepsLaws.{calmly_led, calmly_refl, collects_refl, collects_trans}
use Rattle.def_rounds.specs.Rounds.{Ends, GetsStuck, GivesUp, HasMade, MakesRound}

-- locations were added twice more
pub adds_twice : (a b c d : Session) → AddsLocations a b → AddsLocations b c → AddsLocations c d → AddsLocations a d
adds_twice a b c d first second third = adds_trans a c d (adds_trans a b c first second) third

-- no round was made
pub made_none : (oracle : Oracle) (s : State) → HasMade oracle s 0 s
made_none oracle s = record { run = collects_refl [] s; in_turn = turn_empty (calmly_refl [] s); holds = holds_none (collects_refl [] s) }

module _ {oracle : Oracle} {start s : State} {rounds : ℕ} (made : HasMade oracle start rounds s) where
  -- more was done behind them, and no round made
  pub made_on : {t : State} → (more : Collects oracle [] s [] t) → LeaveInTurn more.runs → HasMade oracle start rounds t
  made_on more in_turn =
      let same : rounds + 0 ≡ rounds = omega arith in
      record { run = collects_trans made.run more; in_turn = turn_both made.run more made.in_turn in_turn; holds = subst (λ n. HoldRounds (collects_trans made.run more).runs n) same (holds_both made.run more made.holds (holds_none more)) }

  -- one more was made
  pub made_more : {t : State} → MakesRound oracle s t → HasMade oracle start (rounds + 1) t
  made_more round = record { run = collects_trans made.run round.run; in_turn = turn_both made.run round.run made.in_turn round.in_turn; holds = holds_both made.run round.run made.holds (holds_one round.run round.round) }

  -- where there are more than the limit, the run ends
  pub ends_over : round_limit < rounds → Ends oracle [] start true s
  ends_over more = record { run = made.run; in_turn = made.in_turn; rounds = rounds; holds = made.holds; limit = λ met. more; rest = λ unmet. absurd (true≢false unmet) }

-- a state that is stuck is at rest where none waits for an attribute
rest_then : (oracle : Oracle) (t : State) → IsStuck oracle t → ((d : MacroDirective) → Contains t.macros d → IsNoAttribute d.kind) → IsAtRest oracle t
rest_then oracle t stuck none = record { imports = stuck.quiet.imports; macros = stuck.macros; attributes = none }

-- and where nothing moves
pub ends_at_rest : {oracle : Oracle} {start s t : State} {rounds : ℕ} → HasMade oracle start rounds s → GetsStuck oracle s t → ((d : MacroDirective) → Contains t.macros d → IsNoAttribute d.kind) → Ends oracle [] start false t
ends_at_rest {oracle = oracle} {t = t} {rounds = rounds} made stuck none =
    let whole = made_on made stuck.run stuck.in_turn in
    record { run = whole.run; in_turn = whole.in_turn; rounds = rounds; holds = whole.holds; limit = λ met. absurd (true≢false (sym met)); rest = λ unmet. rest_then oracle t stuck.stuck none }

-- what one turn of the loop does behind the imports that it records, by an oracle that stays the same
module _ {oracle o : Oracle} {start s t : State} {rounds : ℕ} (made : HasMade oracle start rounds s) (at : o ≡ oracle) (imports : Leads o [] s [] t) where
  passed : HasMade oracle start rounds t
  passed = let leads = subst (λ x. Leads x [] s [] t) at imports in made_on made leads.collects (turn_empty (calmly_led leads))

  -- a round is made
  pub made_round : {p : Oracle} {u : State} → p ≡ o → MakesRound p t u → HasMade oracle start (rounds + 1) u
  made_round {u = u} then_at round = made_more passed (subst (λ x. MakesRound x t u) (then_at ∙ at) round)

  -- nothing moves, and the run ends
  pub ends_stuck : {p : Oracle} {u : State} → p ≡ o → GetsStuck p t u → ((d : MacroDirective) → Contains u.macros d → IsNoAttribute d.kind) → Ends oracle [] start false u
  ends_stuck {u = u} then_at stuck none = ends_at_rest passed (subst (λ x. GetsStuck x t u) (then_at ∙ at) stuck) none

  -- nothing moves, and an item is given up
  pub made_given : {p q : Oracle} {u v : State} → p ≡ o → q ≡ p → GetsStuck p t u → GivesUp q u v → HasMade oracle start rounds v
  made_given {u = u} {v = v} then_at last_at stuck given =
      let stays = subst (λ x. GetsStuck x t u) (then_at ∙ at) stuck in
      let leaves = subst (λ x. GivesUp x u v) (last_at ∙ then_at ∙ at) given in
      made_on (made_on passed stays.run stays.in_turn) leaves.run leaves.in_turn
