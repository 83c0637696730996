-- The chain of a module: itself, its parent and so on, and past a block's root the modules that contain the block.
use Rattle.std.specs.Prelude.{◌≡◌, ◌&&◌, ◌<◌, ◌++◌, Bool, true, not, ℕ, zero, suc, List, [], ◌∷◌, map, length, Option, Some, None, nat_lt, slice_get, if◌then◌else◌}
use Rattle.std.specs.List.{list_any}
use Rattle.std.specs.Option.{option_map_or, option_and_then}
use Rattle.def_ids.specs.declared.ids.MapId.{MapId}
use Rattle.def_ids.specs.declared.ids.ModuleId.{ModuleId}
use Rattle.def_ids.specs.Ids.{is_same_map, is_same_module}

-- the parent of the i-th module, where it has one
abbrev pub parent_of : List (Option ℕ) → ℕ → Option ℕ
parent_of parents i = option_and_then (λ parent. parent) (slice_get parents i)

-- a module and those above it, at most so many steps up
abbrev pub ancestors : ℕ → List (Option ℕ) → ℕ → List ℕ
ancestors zero parents i = i ∷ []
ancestors (suc steps) parents i = i ∷ option_map_or (ancestors steps parents) (parent_of parents i) []

-- a module of this map, by its index
abbrev pub module_of : MapId → ℕ → ModuleId
module_of own i = record { map = own; index = i }

-- the list from a module on, or that module alone where it is not in the list
abbrev pub from_module : List ModuleId → ModuleId → List ModuleId
from_module [] m = m ∷ []
from_module (x ∷ xs) m = if is_same_module m x then x ∷ xs else from_module xs m

-- the module after this one in the list
abbrev pub after_module : List ModuleId → ModuleId → Option ModuleId
after_module [] m = None
after_module (x ∷ xs) m = if is_same_module m x then slice_get xs 0 else after_module xs m

-- the place after this module in the list, or the end where it is not in the list
abbrev pub after_index : List ModuleId → ModuleId → ℕ
after_index [] m = 0
after_index (x ∷ xs) m = if is_same_module m x then 1 else suc (after_index xs m)

-- the map has this module
abbrev pub is_own : MapId → List (Option ℕ) → ModuleId → Bool
is_own own parents m = is_same_map m.map own && nat_lt m.index (length parents)

-- the chain of a module; as a parent's index is lower, its index bounds the steps up
abbrev pub chain_of : MapId → List (Option ℕ) → List ModuleId → ModuleId → List ModuleId
chain_of own parents containing m =
    if is_own own parents m
    then map (module_of own) (ancestors m.index parents m.index) ++ containing
    else from_module containing m

-- the module after this one in its chain
abbrev pub above_of : MapId → List (Option ℕ) → List ModuleId → ModuleId → Option ModuleId
above_of own parents containing m =
    if is_own own parents m
    then option_map_or (λ p. Some (module_of own p)) (parent_of parents m.index) (slice_get containing 0)
    else after_module containing m

-- each parent has a lower index
abbrev pub AreParentsLower : List (Option ℕ) → Type 0
AreParentsLower parents = (i p : ℕ) → parent_of parents i ≡ Some p → p < i

-- the modules are of other maps, and no two are equal
abbrev pub are_apart : MapId → List ModuleId → Bool
are_apart own [] = true
are_apart own (x ∷ xs) = (not (is_same_map x.map own) && not (list_any (is_same_module x) xs)) && are_apart own xs

-- where the list goes on after this module, past the map's own
abbrev pub next_of : MapId → List (Option ℕ) → List ModuleId → ModuleId → ℕ
next_of own parents containing m = if is_own own parents m then 0 else after_index containing m
