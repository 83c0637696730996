-- The values of one module among those of all, and their numbers, at worked rows.
use Rattle.std.proofs.Common.{◌≡◌, ℕ, true, false, None, List, [], ◌∷◌, refl}
use Rattle.std.specs.Prelude.{◌==◌}
use Rattle.def_ids.specs.declared.ids.ModuleId.{ModuleId}
use Rattle.def_tables.specs.declared.place.Placed.{Placed}
use Rattle.def_tables.specs.Numbers.{own_entries, numbers_from, is_placed, placed_at}

abbrev at : ℕ → ModuleId
at i = record { map = record { krate = record { 0 = 0 }; block = None }; index = i }

-- a value for module 1, one for module 2 and a second one for module 1
abbrev entries : List (Placed ℕ × ℕ)
entries = (placed_at (at 1) 40, 7) ∷ (placed_at (at 2) 40, 8) ∷ (placed_at (at 1) 41, 9) ∷ []

own_of_a_module : own_entries entries (at 1) ≡ (40, 7) ∷ (41, 9) ∷ []
own_of_a_module = refl

none_of_another : own_entries entries (at 3) ≡ []
none_of_another = refl

-- the numbers count the values of all modules
numbers_of_a_module : numbers_from {K = ℕ} (at 1) 5 (placed_at (at 1) 40 ∷ placed_at (at 2) 40 ∷ placed_at (at 1) 41 ∷ []) ≡ 5 ∷ 7 ∷ []
numbers_of_a_module = refl

-- one key of two modules, and two keys of one, are two places
places_compared : (is_placed (λ a b. a == b) (placed_at (at 1) 40) (placed_at (at 1) 40) ≡ true) × (is_placed (λ a b. a == b) (placed_at (at 1) 40) (placed_at (at 2) 40) ≡ false) × (is_placed (λ a b. a == b) (placed_at (at 1) 40) (placed_at (at 1) 41) ≡ false)
places_compared = (refl, refl, refl)
