-- Looking for a vector by its name.
use Rattle.std.proofs.Common.{◌≡◌, ◌||◌, refl, ap, ℕ, List, [], ◌∷◌, map, bytes_eq}
use Rattle.std.specs.List.{list_any}

-- a name is among those that references lead to where it is among these
pub any_named : {A : Type 0} (now : A → List ℕ) (names : List A) (name : List ℕ) → list_any (λ known. bytes_eq (now known) name) names ≡ list_any (λ known. bytes_eq known name) (map now names)
any_named now [] name = refl
any_named now (known ∷ names) name = ap (λ rest. bytes_eq (now known) name || rest) (any_named now names name)
