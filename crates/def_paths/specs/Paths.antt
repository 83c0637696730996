-- What paths and visibilities mean in a world.
use Rattle.std.specs.Prelude.{ℕ, Option, Some, None}
use Rattle.std.specs.Option.{option_map, option_and_then}
use Rattle.item_tree.specs.declared.items.RawVisibility.{RawVisibility}
use Rattle.item_tree.specs.declared.items.RawVisibility.TheVariants as raw
use Rattle.item_tree.specs.declared.mod_path.ModPath.{ModPath}
use Rattle.tree_ids.specs.declared.name.Name.{Name}
use Rattle.def_ids.specs.declared.ids.MacroId.{MacroId}
use Rattle.def_ids.specs.declared.ids.MapId.{MapId}
use Rattle.def_ids.specs.declared.ids.ModuleId.{ModuleId}
use Rattle.def_bindings.specs.declared.visibility.Visibility.{Visibility}
use Rattle.def_bindings.specs.declared.visibility.Visibility.TheVariants as visible
use Rattle.def_sources.specs.declared.asked.Asked.{Asked}
use Rattle.def_sources.specs.declared.asked.BuiltinShadowMode.{BuiltinShadowMode}
use Rattle.def_paths.specs.declared.path_result.ResolvePathResult.{ResolvePathResult}
use Rattle.def_sources.specs.declared.per_ns.MacroSubNs.{MacroSubNs}
use Rattle.def_sources.specs.declared.per_ns.PerNs.{PerNs}
use Rattle.def_sources.specs.Items.{module_of_def, macro_of_def}
use Rattle.def_modules.specs.MapView.{MapView}
use Rattle.def_oracle.specs.Oracle.{Meaning}
use Rattle.def_paths.specs.OuterMaps.{answer_of}
use Rattle.def_sources.specs.PerNs.{per_namespace}
use Rattle.def_sources.specs.Sources.{map_of_id, scope_source}
pub use Rattle.def_interner.specs.Session.{macro_def}
pub use Rattle.def_sources.specs.Modes.{asked_by, for_import, for_macro, for_module}
pub use Rattle.def_sources.specs.Sources.{World, Question, question, world_of}

-- what a path means from a module
abbrev pub resolve : World → Asked → ModuleId → ModPath → ResolvePathResult
resolve w asked place path = answer_of (question w asked) w.map place path

-- the module that is found in types, where no segment is left
abbrev pub module_reached : PerNs → Option ℕ → Option ModuleId
module_reached found (Some left) = None
module_reached found None = option_and_then (λ item. module_of_def item.def) found.types

-- the module that a path gives
abbrev pub module_found : ResolvePathResult → Option ModuleId
module_found answer = module_reached answer.resolved_def answer.segment_index

-- what a written visibility means
abbrev pub resolve_visibility : World → ModuleId → RawVisibility → Option Visibility
resolve_visibility w place raw.Public = Some visible.Public
resolve_visibility w place raw.PubCrate = Some visible.PubCrate
resolve_visibility w place raw.PubSelf = Some (visible.Module place)
resolve_visibility w place (raw.In path) = option_map (λ m. visible.Module m) (module_found (resolve w for_module place path))

-- what a module binds of a name
abbrev pub scope : World → ModuleId → Name → PerNs
scope w place name = per_namespace (scope_source (question w for_module) w.map place name)

-- the map that a module lies in
abbrev pub map_of : World → MapId → Option MapView
map_of w id = map_of_id w.oracle w.map id

-- the macro that is found in macros
abbrev pub macro_named : PerNs → Option MacroId
macro_named found = option_and_then (λ item. macro_of_def item.def) found.macros

-- the macro that each path names
abbrev pub resolver : World → BuiltinShadowMode → MacroSubNs → ModuleId → Meaning
resolver w shadow sub place path =
    option_and_then (macro_def w.session) (macro_named (resolve w (for_macro shadow sub) place path).resolved_def)
