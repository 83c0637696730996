-- What holds along runs.
use Rattle.def_oracle.specs.Oracle.{Oracle}
use Rattle.def_rules.specs.State.{Moment}
use Rattle.def_rules.specs.Steps.{Reaches, Step, here, one, join}

module _ {oracle : Oracle} where
  -- what holds of a moment with itself, of each step, and of two runs in a row where it holds of both, holds of all runs
  pub along : (P : Moment → Moment → Type 0) → ((a : Moment) → P a a) → ((a b : Moment) → Step oracle a b → P a b) → ((a b c : Moment) → P a b → P b c → P a c) → {a b : Moment} → Reaches oracle a b → P a b
  along P still step trans (here {a = a}) = still a
  along P still step trans (one {a = a} {b = b} s) = step a b s
  along P still step trans (join {a = a} {b = b} {c = c} p q) = trans a b c (along P still step trans p) (along P still step trans q)

  -- what each step keeps, runs keep
  pub kept_along : (P : Moment → Type 0) → ((a b : Moment) → Step oracle a b → P a → P b) → {a b : Moment} → Reaches oracle a b → P a → P b
  kept_along P step r = along (λ a b. P a → P b) (λ a p. p) step (λ a b c p q x. q (p x)) r
