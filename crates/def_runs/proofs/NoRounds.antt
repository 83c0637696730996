-- Where no macro ever waits, a run holds no round, and does not meet their limit.
use Rattle.std.proofs.Common.{◌≡◌, ◌<◌, ◌+◌, ℕ, Bool, true, false, true≢false, List, [], refl, arith}
use Rattle.def_laws.proofs.RunsLaws.{kept_along}
use Rattle.def_oracle.specs.Oracle.{Oracle}
use Rattle.def_rules.specs.Rounds.{InRound, IsOverLimit, Leaves, Rounds, begins, both, goes_on, leaves, none, single, stays}
use Rattle.def_rules.specs.State.{Moment}
use Rattle.def_rules.specs.Steps.{Reaches, Step, asks, copies, notes, expands, falls_back, performs, rearranges, records, reorders}
use Rattle.def_rules.specs.Waiting.{MacroDirective}
use Rattle.def_runs.proofs.RowLemmas.{none_asked}

module _ {oracle : Oracle} (P : Moment → Type 0) (bare : (m : Moment) → P m → m.state.macros ≡ []) (keeps : (a b : Moment) → Step oracle a b → P a → P b) where
  -- none leaves
  none_leaves : (a b : Moment) (step : Step oracle a b) (d : MacroDirective) → P a → Leaves step d → ⊥
  none_leaves a b (asks effect idle turn is) d holds left = none_asked oracle a.state effect (bare a holds) turn
  none_leaves a b (performs task rest effect first does is) d holds left = left
  none_leaves a b (copies content copy is) d holds left = left
  none_leaves a b (reorders macros same is) d holds left = left
  none_leaves a b (rearranges state same is) d holds left = left
  none_leaves a b (records effect idle step is) d holds left = left
  none_leaves a b (notes idle is) d holds left = left
  none_leaves a b (expands effect idle step is) d holds left = left
  none_leaves a b (falls_back effect idle step is) d holds left = left

  none_left : {a b : Moment} {run : Reaches oracle a b} {left : List MacroDirective} {moved : Bool} → P a → InRound oracle a b run left moved → (moved ≡ false) × P b
  none_left holds begins = (refl, holds)
  none_left holds (goes_on turns more) = let so_far = none_left holds turns in (so_far.0, kept_along P keeps more so_far.1)
  none_left holds (stays before d behind turns at) = none_left holds turns
  none_left holds (leaves before d behind turns step left) = absurd (none_leaves _ _ step d (none_left holds turns).1 left)

  no_rounds : {a b : Moment} {run : Reaches oracle a b} {n : ℕ} → P a → Rounds oracle a b run n → (n ≡ 0) × P b
  no_rounds holds (none run) = (refl, kept_along P keeps run holds)
  no_rounds holds (single run round) = absurd (true≢false (none_left holds round.turns).0)
  no_rounds holds (both first second) =
      let one = no_rounds holds first in
      let two = no_rounds one.1 second in
      (omega (arith, one.0, two.0), two.1)

  pub not_over_the_limit : {a b : Moment} {run : Reaches oracle a b} → P a → IsOverLimit oracle a b run → ⊥
  not_over_the_limit holds over = let same = (no_rounds holds over.holds).0 in let more = over.more in absurd (omega (arith, same, more))
