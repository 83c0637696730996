-- Functions and lists that are changed in one place.
use Rattle.std.specs.Prelude.{ℕ, zero, suc, Bool, cond, List, [], ◌∷◌}

-- a function with another value where the test holds
abbrev pub set_where : {K X : Type 0} → (K → Bool) → X → (K → X) → K → X
set_where test x f k = cond (test k) x (f k)

-- a list with another element at a place, if it is there
abbrev pub update_at : {X : Type 0} → List X → ℕ → (X → X) → List X
update_at [] i f = []
update_at (x ∷ xs) zero f = f x ∷ xs
update_at (x ∷ xs) (suc i) f = x ∷ update_at xs i f
