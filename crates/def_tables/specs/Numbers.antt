-- The values of one module among those of all, and their numbers.
use Rattle.std.specs.Prelude.{◌≡◌, ◌&&◌, ℕ, suc, Bool, List, [], ◌∷◌, cond}
use Rattle.def_ids.specs.declared.ids.ModuleId.{ModuleId}
use Rattle.def_ids.specs.Ids.{is_same_module}
use Rattle.def_tables.specs.declared.place.Placed.{Placed}

-- the keys and values of one module, in order
abbrev pub own_entries : {K W : Type 0} → List (Placed K × W) → ModuleId → List (K × W)
own_entries [] m = []
own_entries (e ∷ es) m = cond (is_same_module m e.0.at) ((e.0.key, e.1) ∷ own_entries es m) (own_entries es m)

-- the numbers of one module's keys, where the first of all has this number
abbrev pub numbers_from : {K : Type 0} → ModuleId → ℕ → List (Placed K) → List ℕ
numbers_from m i [] = []
numbers_from m i (k ∷ ks) = cond (is_same_module m k.at) (i ∷ numbers_from m (suc i) ks) (numbers_from m (suc i) ks)

-- each module's list holds the numbers of its keys
abbrev pub AreNumbered : {K : Type 0} → List (Placed K) → (ModuleId → List ℕ) → Type 0
AreNumbered keys numbers = (m : ModuleId) → numbers m ≡ numbers_from m 0 keys

-- whether two places are one, by a test of their keys
abbrev pub is_placed : {K : Type 0} → (K → K → Bool) → Placed K → Placed K → Bool
is_placed eq p q = is_same_module p.at q.at && eq p.key q.key

abbrev pub placed_at : {K : Type 0} → ModuleId → K → Placed K
placed_at m k = record { at = m; key = k }
