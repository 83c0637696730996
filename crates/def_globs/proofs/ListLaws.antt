-- What is in a list.
use Rattle.std.specs.Prelude.{◌≡◌, List, [], ◌∷◌, ◌⊎◌, Contains}
use Rattle.std.proofs.Common.{sym, inl, inr, arith}
use Rattle.std.proofs.lemmas.List.Elements.{Contains-append_left, Contains-append_right, Contains-append_cases, Contains-push, Contains-push_cases}

-- in a list that begins with it, and in one that goes on
pub first_in : {X : Type 0} (x : X) (xs : List X) → Contains (x ∷ xs) x
first_in x xs = Contains-append_left (x ∷ []) xs x (Contains-push [] x)

pub later_in : {X : Type 0} (x : X) (xs : List X) (y : X) → Contains xs y → Contains (x ∷ xs) y
later_in x xs y h = Contains-append_right (x ∷ []) xs y h

pub none_in : {X : Type 0} (x : X) → Contains [] x → ⊥
none_in x h = absurd (omega arith)

pub only_in : {X : Type 0} (x : X) (y : X) → Contains (x ∷ []) y → y ≡ x
only_in x y h = elim (Contains-push_cases [] x y h) [ inl nowhere ↦ absurd (none_in y nowhere) | inr e ↦ sym e ]

pub in_cases : {X : Type 0} (x : X) (xs : List X) (y : X) → Contains (x ∷ xs) y → (y ≡ x) ⊎ Contains xs y
in_cases x xs y h = elim (Contains-append_cases (x ∷ []) xs y h) [
  | inl one ↦ inl (only_in x y one)
  | inr rest ↦ inr rest
]
