-- What is seen of a module's scope.
use Rattle.std.specs.Prelude.{◌≡◌, ℕ, Bool, false, List, [], ◌∷◌, Option, None, Some, map, filter_map, flat_map, option_map, drop, slice_get, if◌then◌else◌}
use Rattle.std.specs.Borrow.{Bor}
use Rattle.std.specs.List.{cons_option}
use Rattle.indexmap.specs.IndexMap.{IndexMap}
use Rattle.indexmap.specs.IndexSet.{IndexSet}
use Rattle.tree_ids.specs.declared.ids.AttrId.{AttrId}
use Rattle.tree_ids.specs.declared.ids.MacroCallId.{MacroCallId}
use Rattle.tree_ids.specs.declared.name.Name.{Name}
use Rattle.def_ids.specs.Equality.{def_eq}
use Rattle.def_ids.specs.declared.ids.Def.{Def}
use Rattle.def_ids.specs.declared.ids.ModuleId.{ModuleId}
use Rattle.def_ids.specs.declared.ids.TraitId.{TraitId}
use Rattle.def_bindings.specs.Content.{Content}
use Rattle.def_bindings.specs.Tree.{module_of}
use Rattle.def_bindings.specs.declared.bindings.Namespace.{Namespace}
use Rattle.def_bindings.specs.declared.bindings.Namespace.TheVariants.{Types, Values, Macros}
use Rattle.def_bindings.specs.declared.visibility.Visibility.{Visibility}
use Rattle.def_map.specs.declared.def_map.DefMap.{DefMap}
use Rattle.def_map.specs.declared.item_scope.ItemScope.{ItemScope}
use Rattle.def_map.specs.declared.scope_bindings.ScopeEntry.{ScopeEntry}
use Rattle.def_sources.specs.declared.per_ns.PerNs.{PerNs}
use Rattle.def_map.specs.DefMaps.{state_of, content_of}
use Rattle.def_modules.specs.declared.module_data.DeriveKey.{DeriveKey}
use Rattle.def_modules.specs.declared.module_data.DeriveRecords.{DeriveRecords}
use Rattle.def_modules.specs.declared.module_data.Invocation.{Invocation}
use Rattle.def_modules.specs.MapState.{ModuleState, DeriveState, Position}
use Rattle.def_modules.specs.ScopeMaps.{derives_of, invoked_of}
use Rattle.def_sources.specs.PerNs.{Item, in_namespace, per_namespace}
use Rattle.def_modules.specs.Scopes.{module_state}
use Rattle.def_sources.specs.Tables.{bound_by}

-- the module of a scope
abbrev pub place_of : ItemScope → ModuleId
place_of s = s.place

-- what its map binds
abbrev pub scope_content : ItemScope → Content Visibility
scope_content s = bound_by s.table.now

-- what its module shows beside
abbrev pub scope_state : ItemScope → ModuleState
scope_state s = module_state s.module_data.now

-- the calls of a set, if there is one
abbrev pub invoked_in : {S : Type 0} → Option (Bor (IndexSet Invocation S)) → Position → MacroCallId → Bool
invoked_in None position call = false
invoked_in (Some calls) position call = invoked_of calls.now position call

-- the derives of a map, if there is one
abbrev pub derives_in : {S : Type 0} → Option (Bor (IndexMap DeriveKey DeriveRecords S)) → Position → AttrId → List DeriveState
derives_in None position attr = []
derives_in (Some derives) position attr = derives_of derives.now position attr

-- what a name means in a module
abbrev pub meaning : Content Visibility → ModuleId → Name → PerNs
meaning c m name = per_namespace (c.binding m name)

-- the names of a module from one on, in first-bound order, with what they mean
abbrev pub resolutions_from : ℕ → Content Visibility → ModuleId → List (Name × PerNs)
resolutions_from i c m = map (λ name. (name, meaning c m name)) (drop i (c.names m))

-- a name with what it stands for in a namespace, if it is bound there
abbrev pub bound_name : Namespace → Content Visibility → ModuleId → Name → Option (Name × Item)
bound_name ns c m name = option_map (λ item. (name, item)) (c.binding m name ns)

-- the names of a module from one on that are bound in a namespace, in first-bound order, with what they stand for
abbrev pub bound_from : ℕ → Namespace → Content Visibility → ModuleId → List (Name × Item)
bound_from i ns c m = filter_map (bound_name ns c m) (drop i (c.names m))

-- a name as it is bound in one namespace
abbrev pub entry_as : Namespace → Name × Item → ScopeEntry
entry_as ns b = record { name = b.0; ns = ns; item = b.1 }

-- a name in one namespace, if it is bound there
abbrev pub entry_in : Name × PerNs → Namespace → Option ScopeEntry
entry_in r ns = option_map (λ item. entry_as ns (r.0, item)) (in_namespace r.1 ns)

-- the bindings of a name: that in types, that in values, that in macros
abbrev pub entries_in : Name × PerNs → List ScopeEntry
entries_in r = filter_map (entry_in r) (Types ∷ Values ∷ Macros ∷ [])

-- the bindings of names, each by itself
abbrev pub entries_of : List (Name × PerNs) → List ScopeEntry
entries_of rs = flat_map entries_in rs

-- the bindings of a module, each by itself
abbrev pub entries_at : Content Visibility → ModuleId → List ScopeEntry
entries_at c m = entries_of (resolutions_from 0 c m)

-- what is left of the bindings of a name, and those of the later names
abbrev pub entries_left : Option (Name × Item) → Option (Name × Item) → List (Name × PerNs) → List ScopeEntry
entries_left values macros later =
    cons_option (option_map (entry_as Values) values) (cons_option (option_map (entry_as Macros) macros) (entries_of later))

-- the name and the namespace of a binding, if it is one of this definition
abbrev pub name_of : Def → ScopeEntry → Option (Name × Namespace)
name_of def e = if def_eq e.item.def def then Some (e.name, e.ns) else None

-- the names and namespaces in which these bind a definition
abbrev pub names_of : Def → List ScopeEntry → List (Name × Namespace)
names_of def es = filter_map (name_of def) es

-- the unnamed traits of a module from one on
abbrev pub unnamed_from : ℕ → Content Visibility → ModuleId → List (TraitId × Visibility)
unnamed_from i c m = drop i (c.unnamed m)

-- a scope is that of a map's module
pub record IsScopeOf (m : DefMap) (index : ℕ) (s : ItemScope) : Type 0 where
  pub place : place_of s ≡ module_of (state_of m).id index
  pub content : scope_content s ≡ content_of m
  pub state : slice_get (state_of m).modules index ≡ Some (scope_state s)
