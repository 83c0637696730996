-- What lists by module are.
use Rattle.std.specs.Prelude.{◌≡◌, false, List, Option, None, slice_get, cond, Vec, AllPairs}
use Rattle.std.specs.Global.{Global}
use Rattle.std.specs.Option.{option_map, option_map_or, option_and_then}
use Rattle.indexmap.specs.IndexMap.{IndexMap, get}
use Rattle.def_ids.specs.declared.ids.MapId.{MapId}
use Rattle.def_ids.specs.declared.ids.ModuleId.{ModuleId}
use Rattle.def_ids.specs.Ids.{is_same_map, is_same_module}
use Rattle.def_tables.specs.declared.lists.Lists.{Lists}
use Rattle.tree_ids.specs.declared.name.Name.{Name}
use Rattle.def_bindings.specs.Content.{is_name, lists_by}

-- the list of a row, if it has one
abbrev pub row_items : {K : Type 0} → Option (Vec K Global) → Option (List K)
row_items = option_map (λ v. v.items)

-- the list of a module in the rows of a map's modules
abbrev pub row_in : {K : Type 0} → MapId → List (Option (Vec K Global)) → ModuleId → Option (List K)
row_in map rows m = cond (is_same_map m.map map) (option_and_then row_items (slice_get rows m.index)) None

-- the lists that stand in rows
abbrev pub rows_of : {K : Type 0} → Lists K → ModuleId → Option (List K)
rows_of l = row_in l.map l.rows.items

-- lists that are looked up; a module without one has the empty list
abbrev pub lists_in : {K S : Type 0} → IndexMap ModuleId (Vec K Global) S → ModuleId → List K
lists_in lists = lists_by (get is_same_module lists) (λ v. v.items)

-- the list in a module's row, and else that which is looked up
abbrev pub with_row : {K : Type 0} → (ModuleId → Option (List K)) → (ModuleId → List K) → ModuleId → List K
with_row rows others m = option_map_or (λ xs. xs) (rows m) (others m)

abbrev pub lists_of : {K : Type 0} → Lists K → ModuleId → List K
lists_of l = with_row (rows_of l) (lists_in l.others)

-- no name stands twice
abbrev pub AreDistinct : List Name → Type 0
AreDistinct names = AllPairs (λ (a b : Name). is_name a b ≡ false) names

-- no module has a name twice
abbrev pub HaveOnce : (ModuleId → List Name) → Type 0
HaveOnce lists = (m : ModuleId) → AreDistinct (lists m)
