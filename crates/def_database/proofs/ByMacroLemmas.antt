-- What is said of the calls at places, after a write.
use Rattle.std.proofs.Common.{◌≡◌, refl, ap, ◌∙◌, Bool, true, false, ◌&&◌, cond, List, Option, Some, None}
use Rattle.std.specs.Prelude.{unwrap_or}
use Rattle.std.specs.Map.{lookup}
use Rattle.std.specs.Option.{option_or}
use Rattle.def_ids.specs.declared.ids.MacroId.{MacroId}
use Rattle.def_ids.specs.Equality.{macro_eq}
use Rattle.def_database.specs.declared.by_macro.ByMacro.{ByMacro}
use Rattle.def_database.specs.ByMacro.{said, with_any_said, with_said}

-- the first of two answers, one of which is written down where a test holds
pub or-set : {A : Type 0} (b : Bool) (answer : A) (o others : Option A) → option_or (cond b (Some answer) o) others ≡ cond b (Some answer) (option_or o others)
or-set true answer o others = refl
or-set false answer o others = refl

-- of a place that is written down as a new one no more is said than before
said-fresh : {A : Type 0} (fresh : ByMacro A) → ((m : MacroId) → said (Some fresh) m ≡ None) → (o : Option (ByMacro A)) (m : MacroId) → said (Some (unwrap_or o fresh)) m ≡ said o m
said-fresh fresh none None m = none m
said-fresh fresh none (Some written) m = refl

module _ {P A : Type 0} (eq : P → P → Bool) (place : P) (old new : P → Option (ByMacro A)) (written : ByMacro A) (answer : A) where
  -- a place is written anew, and all others stay
  pub said-any : ((q : P) → new q ≡ cond (eq place q) (Some written) (old q)) → ((m : MacroId) → said (Some written) m ≡ Some answer) → (λ (p : P) (m : MacroId). said (new p) m) ≡ with_any_said eq (λ (p : P) (m : MacroId). said (old p) m) place answer
  said-any is-written is = λ i q m. (ap (λ o. said o m) (is-written q) ∙ by q m (eq place q)) i
    where
      by : (q : P) (m : MacroId) (b : Bool) → said (cond b (Some written) (old q)) m ≡ cond b (Some answer) (said (old q) m)
      by q m true = is m
      by q m false = refl

module _ {P A : Type 0} (eq : P → P → Bool) (exact : (a b : P) → eq a b ≡ true → a ≡ b) (place : P) (old new : List (P × ByMacro A)) (fresh found written : ByMacro A) where
  -- a place is written anew as what it was, or as a new one, and says what it said
  pub said-still : ((q : P) → lookup (eq q) new ≡ cond (eq place q) (Some written) (lookup (eq q) old))
      → ((m : MacroId) → said (Some fresh) m ≡ None) → found ≡ unwrap_or (lookup (eq place) old) fresh
      → ((m : MacroId) → said (Some written) m ≡ said (Some found) m)
      → ◌≡◌ {A = P → MacroId → Option A} (λ p m. said (lookup (eq p) new) m) (λ p m. said (lookup (eq p) old) m)
  said-still is-written none is same = λ i q m. (ap (λ o. said o m) (is-written q) ∙ by q m (eq place q) refl) i
    where
      by : (q : P) (m : MacroId) (b : Bool) → eq place q ≡ b → said (cond b (Some written) (lookup (eq q) old)) m ≡ said (lookup (eq q) old) m
      by q m false e = refl
      by q m true e = same m ∙ ap (λ w. said (Some w) m) is ∙ said-fresh fresh none (lookup (eq place) old) m ∙ ap (λ p. said (lookup (eq p) old) m) (exact place q e)

  -- a place is written anew as what it was, or as a new one, and says one thing more
  pub said-for : (macro_id : MacroId) (answer : A) → ((q : P) → lookup (eq q) new ≡ cond (eq place q) (Some written) (lookup (eq q) old))
      → ((m : MacroId) → said (Some fresh) m ≡ None) → found ≡ unwrap_or (lookup (eq place) old) fresh
      → ((m : MacroId) → said (Some written) m ≡ cond (macro_eq macro_id m) (Some answer) (said (Some found) m))
      → (λ (p : P) (m : MacroId). said (lookup (eq p) new) m) ≡ with_said eq (λ (p : P) (m : MacroId). said (lookup (eq p) old) m) place macro_id answer
  said-for macro_id answer is-written none is set = λ i q m. (ap (λ o. said o m) (is-written q) ∙ by q m (eq place q) refl) i
    where
      by : (q : P) (m : MacroId) (b : Bool) → eq place q ≡ b → said (cond b (Some written) (lookup (eq q) old)) m ≡ cond (b && macro_eq macro_id m) (Some answer) (said (lookup (eq q) old) m)
      by q m false e = refl
      by q m true e =
          set m
          ∙ ap (λ o. cond (macro_eq macro_id m) (Some answer) o) (ap (λ w. said (Some w) m) is ∙ said-fresh fresh none (lookup (eq place) old) m ∙ ap (λ p. said (lookup (eq p) old) m) (exact place q e))
