-- What a table of bindings contains.
use Rattle.std.specs.Prelude.{◌≡◌, Bool, true, false, ◌==◌, ◌&&◌, ◌||◌, not, cond, Option, Some, None, is_some, List, [], ◌∷◌, ◌++◌, map, filter, Contains}
use Rattle.std.specs.List.{list_any}
use Rattle.std.specs.Option.{option_map_or}
use Rattle.std.specs.Map.{lookup}
use Rattle.indexmap.specs.IndexMap.{insert_entry}
use Rattle.def_ids.specs.declared.ids.ModuleId.{ModuleId}
use Rattle.tree_ids.specs.declared.name.Name.{Name}
use Rattle.def_bindings.specs.declared.bindings.Namespace.{Namespace}
use Rattle.def_bindings.specs.declared.bindings.Namespace.TheVariants.{Types, Values, Macros}
use Rattle.def_ids.specs.declared.ids.TraitId.{TraitId}
use Rattle.def_ids.specs.Ids.{is_same_module}
use Rattle.def_bindings.specs.declared.bindings.Binding.{Binding}
use Rattle.def_bindings.specs.declared.bindings.EdgeTo.{EdgeTo}

-- bindings by place, and for each module its names in first-bound order, its unnamed traits, and its glob edges in order of recording
pub record Content (V : Type 0) : Type 0 where
  pub binding : ModuleId → Name → Namespace → Option (Binding V)
  pub names : ModuleId → List Name
  pub unnamed : ModuleId → List (TraitId × V)
  pub edges : ModuleId → List (EdgeTo V)

abbrev pub is_name : Name → Name → Bool
is_name a b = a.0 == b.0

abbrev pub is_trait : TraitId → TraitId → Bool
is_trait a b = a.0 == b.0

abbrev pub is_namespace : Namespace → Namespace → Bool
is_namespace Types Types = true
is_namespace Values Values = true
is_namespace Macros Macros = true
is_namespace Types _ = false
is_namespace Values _ = false
is_namespace Macros _ = false

-- nothing is bound
abbrev pub empty : {V : Type 0} → Content V
empty = record { binding = λ m x n. None; names = λ m. []; unnamed = λ m. []; edges = λ m. [] }

-- one place of a function of places changed
abbrev pub bound_as : {B : Type 0} → (ModuleId → Name → Namespace → Option B) → ModuleId → Name → Namespace → Option B → ModuleId → Name → Namespace → Option B
bound_as f at name ns b m x n = cond (is_same_module at m && (is_name name x && is_namespace ns n)) b (f m x n)

-- one module's list changed
abbrev pub listed_as : {A : Type 0} → (ModuleId → A) → ModuleId → A → ModuleId → A
listed_as f at a m = cond (is_same_module at m) a (f m)

-- whether a name has a binding in some namespace
abbrev pub is_bound : {B : Type 0} → (ModuleId → Name → Namespace → Option B) → ModuleId → Name → Bool
is_bound f m x = is_some (f m x Types) || (is_some (f m x Values) || is_some (f m x Macros))

abbrev pub is_listed : List Name → Name → Bool
is_listed names x = list_any (is_name x) names

-- a new name goes last
abbrev pub with_name : List Name → Name → List Name
with_name names x = cond (is_listed names x) names (names ++ x ∷ [])

abbrev pub without_name : List Name → Name → List Name
without_name names x = filter (λ y. not (is_name x y)) names

-- one binding set: the name keeps its place, or gets the last
abbrev pub with_binding : {V : Type 0} → Content V → ModuleId → Name → Namespace → Binding V → Content V
with_binding c at name ns b = record {
  binding = bound_as c.binding at name ns (Some b);
  names = listed_as c.names at (with_name (c.names at) name);
  unnamed = c.unnamed;
  edges = c.edges;
}

-- one binding taken out: with its last binding the name loses its place
abbrev pub without_binding : {V : Type 0} → Content V → ModuleId → Name → Namespace → Content V
without_binding c at name ns =
    let left = bound_as c.binding at name ns None in
    record {
      binding = left;
      names = listed_as c.names at (cond (is_bound left at name) (c.names at) (without_name (c.names at) name));
      unnamed = c.unnamed;
      edges = c.edges;
    }

abbrev pub vis_of : {V : Type 0} → List (TraitId × V) → TraitId → Option V
vis_of items item = lookup (is_trait item) items

-- one unnamed trait set, in its place or last
abbrev pub with_unnamed : {V : Type 0} → Content V → ModuleId → TraitId → V → Content V
with_unnamed c at item vis = record {
  binding = c.binding;
  names = c.names;
  unnamed = listed_as c.unnamed at (insert_entry is_trait (c.unnamed at) item vis);
  edges = c.edges;
}

-- whether there is an edge to a module
abbrev pub leads_to : {V : Type 0} → ModuleId → List (EdgeTo V) → Bool
leads_to m es = list_any (λ e. is_same_module m e.importer) es

-- a list of edges with the edge to one importer replaced, or added at the end
abbrev pub replaced : {V : Type 0} → List (EdgeTo V) → EdgeTo V → List (EdgeTo V)
replaced es edge = cond (leads_to edge.importer es) (map (λ e. cond (is_same_module edge.importer e.importer) edge e) es) (es ++ edge ∷ [])

-- one edge added, or replaced where its importer has one
abbrev pub with_edge : {V : Type 0} → Content V → ModuleId → EdgeTo V → Content V
with_edge c at edge = record {
  binding = c.binding;
  names = c.names;
  unnamed = c.unnamed;
  edges = listed_as c.edges at (replaced (c.edges at) edge);
}

-- every module with an edge is among these
abbrev pub AreSources : {V : Type 0} → Content V → List ModuleId → Type 0
AreSources c sources = (m : ModuleId) (e : EdgeTo _) → Contains (c.edges m) e → Contains sources m

-- a name is listed exactly where it is bound
abbrev pub AreTied : {B : Type 0} → (ModuleId → Name → Namespace → Option B) → (ModuleId → List Name) → Type 0
AreTied binding names = (m : ModuleId) (x : Name) → is_listed (names m) x ≡ is_bound binding m x

-- what rows list, where a module without a row has nothing
abbrev pub lists_by : {R A : Type 0} → (ModuleId → Option R) → (R → List A) → ModuleId → List A
lists_by rows list m = option_map_or list (rows m) []
