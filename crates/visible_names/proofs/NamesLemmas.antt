-- The lists of names in which all names of a source stand, each once.
use Rattle.std.proofs.Common.{◌≡◌, ◌≤◌, arith, Bool, true, false, List, [], Option, Some, None, Contains, length, refl, sym, ap, subst, ◌∙◌, reverse, slice_get, is_some}
use Rattle.std.specs.Prelude.{◌||◌, if◌then◌else◌}
use Rattle.std.specs.Option.{option_map, option_map_or, option_and_then}
use Rattle.std.proofs.lemmas.Map.Views.{Contains-from_any, Contains-keys_from_lookup}
use Rattle.std.proofs.lemmas.Map.Keys.{apart_from_distinct}
use Rattle.std.proofs.lemmas.Option.{slice_get_past}
use Rattle.indexmap.specs.IndexMap.{IndexMap, IsUnique, get, keys}
use Rattle.tree_ids.specs.declared.name.Name.{Name}
use Rattle.def_ids.specs.declared.ids.Def.TheVariants.{Macro}
use Rattle.def_ids.specs.declared.ids.MacroId.{MacroId}
use Rattle.def_ids.specs.declared.ids.ModuleId.{ModuleId}
use Rattle.def_ids.specs.Ids.{is_block_root, is_same_map}
use Rattle.def_bindings.specs.Content.{Content, AreTied, is_bound, is_name}
use Rattle.def_bindings.specs.IdLaws.{name-eq, same_map_itself}
use Rattle.def_bindings.specs.declared.bindings.Namespace.{Namespace}
use Rattle.def_bindings.specs.declared.bindings.Namespace.TheVariants.{Types, Values, Macros}
use Rattle.def_bindings.specs.declared.visibility.Visibility.{Visibility}
use Rattle.def_tables.specs.Lists.{AreDistinct}
use Rattle.def_map.specs.declared.def_map.DefMap.{DefMap}
use Rattle.def_map.specs.declared.item_scope.ItemScope.{ItemScope}
use Rattle.def_map.specs.DefMaps.{state_of, view_of}
use Rattle.def_map.specs.ItemScopes.{IsScopeOf, scope_state}
use Rattle.def_modules.specs.declared.local_def_map.LocalDefMap.{LocalDefMap}
use Rattle.def_modules.specs.Locals.{entry_in, local_view}
use Rattle.def_modules.specs.MapState.{ModuleState}
use Rattle.def_modules.specs.MapView.{MapView, LocalView}
use Rattle.def_oracle.specs.Oracle.{Oracle}
use Rattle.def_sources.specs.Items.{extern_item, public_item}
use Rattle.def_modules.specs.ScopeMaps.{textual_of}
use Rattle.def_sources.specs.PerNs.{Item, nothing, per_namespace}
use Rattle.def_sources.specs.Sources.{Source, extern_source, finished_map, macro_use_source, map_of_id, textual_source, unless_block_root}
use Rattle.visible_names.specs.Visible.{asking, Lists}

-- a name of which something is found is among the keys
pub key_found : {V S : Type 0} (m : IndexMap Name V S) (name : Name) (v : V) → get is_name m name ≡ Some v → Contains (keys m) name
key_found m name v e = Contains-keys_from_lookup name-eq name m.entries (ap is_some e)

-- so is one of which something is read that is nothing where nothing is found
pub key_read : {V W S : Type 0} (m : IndexMap Name V S) (name : Name) (read : Option V → Option W) (w : W) → read None ≡ None → read (get is_name m name) ≡ Some w → Contains (keys m) name
key_read m name read w nothing e = by (get is_name m name) refl
  where
    by : (found : Option _) → get is_name m name ≡ found → Contains (keys m) name
    by None is = let no : None ≡ Some w = sym nothing ∙ ap read (sym is) ∙ e in cc
    by (Some v) is = key_found m name v is

-- the names of other crates
pub lists_extern : (oracle : Oracle) (local : LocalDefMap) (names : List Name) → names ≡ keys local.extern_prelude → Lists (extern_source (asking oracle (local_view local))) names
lists_extern oracle local names is name Types item e =
    subst (λ l. Contains l name) (sym is) (key_read local.extern_prelude name (λ o. option_map extern_item (entry_in o)) item refl e)
lists_extern oracle local names is name Values item e = cc
lists_extern oracle local names is name Macros item e = cc

-- the names of the macros that extern crates brought
pub lists_macro_use : {S : Type 0} (own : MapView) (m : IndexMap Name MacroId S) (names : List Name) → names ≡ keys m → get is_name m ≡ own.facts.macro_use → Lists (macro_use_source own) names
lists_macro_use own m names is same name Types item e = cc
lists_macro_use own m names is same name Values item e = cc
lists_macro_use own m names is same name Macros item e =
    subst (λ l. Contains l name) (sym is) (key_read m name (λ o. option_map (λ (id : MacroId). public_item (Macro id)) o) item refl
    (ap (λ (f : Name → Option MacroId). option_map (λ (id : MacroId). public_item (Macro id)) (f name)) same ∙ e))

module _ (oracle : Oracle) (local : LocalView) (map : DefMap) (place : ModuleId) (own : place.map ≡ (state_of map).id) where
  -- the last textual macro, in the module's state
  textual_is : (name : Name) → option_and_then (λ (there : MapView). there.facts.textual_macro place name) (map_of_id oracle (view_of map) place.map)
      ≡ slice_get (option_map_or (λ (m : ModuleState). m.textual name) (slice_get (state_of map).modules place.index) []) 0
  textual_is name =
      let same : is_same_map place.map (state_of map).id ≡ true = ap (λ id. is_same_map id (state_of map).id) own ∙ same_map_itself (state_of map).id in
      ap (λ b. option_and_then (λ (there : MapView). there.facts.textual_macro place name) (if b then Some (view_of map) else finished_map oracle place.map)) same
      ∙ ap (λ b. if b then slice_get (option_map_or (λ (m : ModuleState). m.textual name) (slice_get (state_of map).modules place.index) []) 0 else None) same

  -- the names with textual macros
  pub lists_textual : {S : Type 0} (m : IndexMap Name (List MacroId) S) (names : List Name) (scope : ItemScope) → names ≡ keys m → textual_of m ≡ (scope_state scope).textual
      → IsScopeOf map place.index scope → Lists (textual_source (asking oracle local) (view_of map) place) names
  lists_textual m names scope is texts at name Types item e = cc
  lists_textual m names scope is texts at name Values item e = cc
  lists_textual m names scope is texts at name Macros item e =
      subst (λ l. Contains l name) (sym is) (key_read m name (λ (o : Option (List MacroId)). option_map (λ (id : MacroId). public_item (Macro id)) (slice_get (option_map_or reverse o []) 0)) item refl
      (ap (λ (f : Name → List MacroId). option_map (λ (id : MacroId). public_item (Macro id)) (slice_get (f name) 0)) texts
      ∙ ap (λ (o : Option ModuleState). option_map (λ (id : MacroId). public_item (Macro id)) (slice_get (option_map_or (λ (m : ModuleState). m.textual name) o []) 0)) (sym at.state)
      ∙ ap (option_map (λ (id : MacroId). public_item (Macro id))) (sym (textual_is name))
      ∙ e))

  -- a module that is not there has none
  pub lists_no_textual : (names : List Name) → length (state_of map).modules ≤ place.index → Lists (textual_source (asking oracle local) (view_of map) place) names
  lists_no_textual names past name Types item e = cc
  lists_no_textual names past name Values item e = cc
  lists_no_textual names past name Macros item e =
      let no : None ≡ Some item =
      ap (λ (o : Option ModuleState). option_map (λ (id : MacroId). public_item (Macro id)) (slice_get (option_map_or (λ (m : ModuleState). m.textual name) o []) 0)) (sym (slice_get_past (state_of map).modules place.index past))
      ∙ ap (option_map (λ (id : MacroId). public_item (Macro id))) (sym (textual_is name))
      ∙ e in
      cc

module _ (c : Content Visibility) (place : ModuleId) (tied : AreTied c.binding c.names) (name : Name) where
  bound_is_listed : (t v m : Option Item) (ns : Namespace) (item : Item) → (is_some t || (is_some v || is_some m)) ≡ is_bound c.binding place name
      → ((t ≡ c.binding place name Types) × (v ≡ c.binding place name Values) × (m ≡ c.binding place name Macros)) → c.binding place name ns ≡ Some item → is_bound c.binding place name ≡ true
  bound_is_listed (Some t) v m ns item e is bound = sym e
  bound_is_listed None (Some v) m ns item e is bound = sym e
  bound_is_listed None None (Some m) ns item e is bound = sym e
  bound_is_listed None None None Types item e is bound = let no : None ≡ Some item = is.0 ∙ bound in cc
  bound_is_listed None None None Values item e is bound = let no : None ≡ Some item = is.1 ∙ bound in cc
  bound_is_listed None None None Macros item e is bound = let no : None ≡ Some item = is.2 ∙ bound in cc

  -- a bound name is listed
  pub bound_listed : (ns : Namespace) (item : Item) → c.binding place name ns ≡ Some item → Contains (c.names place) name
  bound_listed ns item bound =
      Contains-from_any name-eq name (c.names place)
      (tied place name ∙ bound_is_listed (c.binding place name Types) (c.binding place name Values) (c.binding place name Macros) ns item refl (refl, refl, refl) bound)

-- the names of a table are those that a module of its map binds
pub lists_in : (found : Option MapView) (c : Content Visibility) (place : ModuleId) → Some c ≡ option_map (λ (m : MapView). m.content) found → AreTied c.binding c.names
    → (name : Name) (ns : Namespace) (item : Item) → option_and_then (λ (there : MapView). there.content.binding place name ns) found ≡ Some item → Contains (c.names place) name
lists_in None c place is tied name ns item e = cc
lists_in (Some there) c place is tied name ns item e =
    let same : c ≡ there.content = cc in bound_listed c place tied name ns item (ap (λ (d : Content Visibility). d.binding place name ns) same ∙ e)

-- where there is no map nothing is bound
pub lists_none : {X : Type 0} (found : Option MapView) (f : MapView → Option X) (x : X) → None ≡ option_map (λ (m : MapView). m.content) found → option_and_then f found ≡ Some x → ⊥
lists_none None f x is e = cc
lists_none (Some there) f x is e = cc

-- a source that a block's root skips
pub lists_unless : (place : ModuleId) (source : Source) (names : List Name) → Lists source names → Lists (unless_block_root place source) names
lists_unless place source names all name ns item e = by (is_block_root place) e
  where
    by : (b : Bool) → (if b then None else source name ns) ≡ Some item → Contains names name
    by true e = cc
    by false e = all name ns item e

-- what a block's root skips, in each namespace
pub outside_is : (b : Bool) (source : Namespace → Option Item) → (if b then nothing else per_namespace source) ≡ per_namespace (λ ns. if b then None else source ns)
outside_is true source = refl
outside_is false source = refl

-- the keys of a map are names that differ
pub keys_once : {V S : Type 0} (m : IndexMap Name V S) (names : List Name) → names ≡ keys m → IsUnique is_name m → AreDistinct names
keys_once m names is unique =
    subst AreDistinct (sym is) (λ i j d below within. apart_from_distinct is_name (keys m) i j d unique below within)

pub none_once : AreDistinct []
none_once = λ i j d below within. absurd (omega (arith, within))
