-- What an extern crate does.
use Rattle.std.specs.Prelude.{Bool, true, false, cond, List, [], ◌∷◌, Option, None, Some, option_map}
use Rattle.item_tree.specs.declared.items.ImportAlias.{ImportAlias}
use Rattle.item_tree.specs.declared.items.ItemNode.{ItemNode}
use Rattle.tree_ids.specs.declared.name.Name.{Name}
use Rattle.item_tree.specs.KnownNames.{name_eq, self_name}
use Rattle.def_ids.specs.declared.ids.Def.TheVariants as def
use Rattle.def_ids.specs.declared.ids.ExternCrateId.{ExternCrateId}
use Rattle.def_ids.specs.declared.ids.MacroId.{MacroId}
use Rattle.def_ids.specs.declared.ids.ModuleId.{ModuleId}
use Rattle.def_ids.specs.Ids.{crate_root}
use Rattle.def_bindings.specs.declared.bindings.Entry.{Entry}
use Rattle.def_bindings.specs.declared.bindings.ImportOrExternCrate.TheVariants.{ExternCrate as ByCrate}
use Rattle.def_bindings.specs.declared.bindings.Namespace.TheVariants.{Types}
use Rattle.def_bindings.specs.declared.visibility.Visibility.{Visibility}
use Rattle.def_bindings.specs.Content.{is_name}
use Rattle.def_modules.specs.MapView.{ExternCrateEntry, LocalView}
use Rattle.def_modules.specs.Updates.{set_where}
use Rattle.def_rules.specs.declared.diagnostics.DefDiagnosticKind.TheVariants.{UnresolvedExternCrate}
use Rattle.def_rules.specs.State.{State, Effect, only, followed_by, reported, with_missing, Site, Put}
use Rattle.def_rules.specs.Items.{diagnostic, is_crate_root}
use Rattle.def_rules.specs.Imports.{alias_name}
use Rattle.def_rules.specs.Macros.{taking_macros}

-- the name that an extern crate binds: its alias, else its own; None is `_`
abbrev pub crate_name : Name → Option ImportAlias → Option Name
crate_name name None = Some name
crate_name name (Some alias) = alias_name alias

-- the root of a named crate, if it is found: `self` is this crate, and any other a dependency
abbrev pub named_crate : State → Name → Option ModuleId
named_crate s name = cond (name_eq name self_name) (Some (crate_root s.map.id.krate)) (option_map (λ entry. entry.root) (s.deps.extern_prelude name))

-- the names of crates with this one, in the place of an earlier one of its name
abbrev pub with_crate : Option Name → ExternCrateEntry → LocalView → LocalView
with_crate None entry known = known
with_crate (Some name) entry known = record { extern_prelude = set_where (is_name name) (Some entry) known.extern_prelude }

-- paths may begin with an extern crate that stands at a crate's root
abbrev pub naming_crate : Bool → Option Name → ExternCrateEntry → State → State
naming_crate false name entry s = s
naming_crate true name entry s = record s { local = with_crate name entry s.local }

-- the entry of an extern crate
abbrev pub crate_entry : ExternCrateId → Option Name → ModuleId → Visibility → Entry Visibility
crate_entry id name root vis = record { name = name; ns = Types; def = def.Module root; vis = vis; origin = Some (ByCrate id) }

-- an extern crate: one that is not found is reported, and its name remembered; any other is put in types, and at a crate's root it brings macros
abbrev pub crate_effect : State → Site → ItemNode → ExternCrateId → Option Name → Visibility → List (Name × MacroId) → Option ModuleId → Effect
crate_effect s site item id name vis brought None = only (reported (with_missing name s) (diagnostic site item UnresolvedExternCrate))
crate_effect s site item id name vis brought (Some root) =
    followed_by (taking_macros (is_crate_root site.scope) brought (naming_crate (is_crate_root site.scope) name (record { root = root; by = Some id }) s)) (Put site.scope (crate_entry id name root vis) ∷ [])
