-- Bindings by place.
use Rattle.std.specs.Prelude.{◌≡◌, ◌==◌, ◌&&◌, ℕ, Bool, true, List, Option, None, is_some, cond}
use Rattle.tree_ids.specs.declared.name.Name.{Name}
use Rattle.def_ids.specs.declared.ids.MapId.{MapId}
use Rattle.def_ids.specs.declared.ids.ModuleId.{ModuleId}
use Rattle.def_ids.specs.Ids.{is_same_map}
use Rattle.def_bindings.specs.declared.bindings.Namespace.{Namespace}
use Rattle.def_bindings.specs.declared.bindings.Binding.{Binding}
use Rattle.def_tables.specs.declared.bound_name.BoundName.{BoundName}
use Rattle.def_tables.specs.declared.place.OwnPlace.{OwnPlace}
use Rattle.def_tables.specs.declared.place.Placed.{Placed}
use Rattle.def_bindings.specs.Content.{is_listed, is_name}
use Rattle.def_tables.specs.BoundName.{meaning_of}
use Rattle.def_tables.specs.IndexedVec.{get}
use Rattle.def_tables.specs.Numbers.{is_placed, placed_at}

-- whether two names are one, of modules of one map
abbrev pub is_own_place : OwnPlace → OwnPlace → Bool
is_own_place p q = (p.index == q.index) && is_name p.name q.name

abbrev pub own_at : ℕ → Name → OwnPlace
own_at index name = record { index = index; name = name }

-- what a name of a module stands for, where it has something: modules of this map are found by their indices, and the others whole
abbrev pub name_of : {B : Type 0} → MapId → List (OwnPlace × B) → List (Placed Name × B) → ModuleId → Name → Option B
name_of map own others m x =
    cond (is_same_map m.map map) (get is_own_place own (own_at m.index x)) (get (is_placed is_name) others (placed_at m x))

-- what is bound at each place
abbrev pub bindings_of : {V K : Type 0} → (MapId → K → V) → MapId → List (OwnPlace × BoundName V K) → List (Placed Name × BoundName V K) → ModuleId → Name → Namespace → Option (Binding V)
bindings_of meaning map own others m x = meaning_of meaning map (name_of map own others m x)

-- the names that are listed are those that have something
abbrev pub AreListed : {B : Type 0} → (ModuleId → Name → Option B) → (ModuleId → List Name) → Type 0
AreListed found names = (m : ModuleId) (x : Name) → is_listed (names m) x ≡ is_some (found m x)

-- no module of the map is among the others
abbrev pub AreStrangers : {B : Type 0} → MapId → List (Placed Name × B) → Type 0
AreStrangers map others = (m : ModuleId) (x : Name) → is_same_map m.map map ≡ true → get (is_placed is_name) others (placed_at m x) ≡ None
