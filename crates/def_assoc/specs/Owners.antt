-- What is answered of the items of a trait or an impl.
use Rattle.std.specs.Prelude.{◌≡◌, List, Option, None, Some}
use Rattle.std.specs.List.{AllZip}
use Rattle.tree_ids.specs.declared.ids.FileAstId.{FileAstId}
use Rattle.tree_ids.specs.declared.ids.HirFileId.{HirFileId}
use Rattle.tree_ids.specs.declared.ids.InFile.{InFile}
use Rattle.tree_ids.specs.declared.ids.MacroCallId.{MacroCallId}
use Rattle.tree_ids.specs.declared.name.Name.{Name}
use Rattle.def_ids.specs.declared.ids.ItemContainerId.{ItemContainerId}
use Rattle.def_ids.specs.declared.ids.ItemContainerId.TheVariants.{Module}
use Rattle.def_ids.specs.declared.ids.ModuleId.{ModuleId}
use Rattle.def_interner.specs.Session.{Session, ItemLoc}
use Rattle.def_modules.specs.MapState.{MapState}
use Rattle.def_modules.specs.MapView.{LocalView, MapView}
use Rattle.def_map.specs.MapStates.{MapStates, finished_state}
use Rattle.def_oracle.specs.declared.source_database.AssocItemsOwner.{AssocItemsOwner}
use Rattle.def_oracle.specs.Oracle.{Oracle}
use Rattle.def_sources.specs.Sources.{finished_map, world_of}
use Rattle.def_rules.specs.declared.diagnostics.DefDiagnostic.{DefDiagnostic}
use Rattle.def_assoc.specs.declared.assoc.AssocItemId.{AssocItemId}
use Rattle.def_assoc.specs.ExpansionTrees.{Lists, Reading, items_of, lists_of, no_lists, nodes_in, tree}
use Rattle.def_assoc.specs.Numbered.{IsNumbered}

-- what items of a module are read against, by its finished map, what that shows beside its bindings, and its crate's local map
abbrev pub reading_at : Oracle → Session → ModuleId → MapView → MapState → LocalView → Reading
reading_at oracle session at map state local = record { world = world_of oracle session map local; map = state; scope = at }

-- the lists of an owner that stands in a file: they begin at the file's depth
abbrev pub lists_at : HirFileId → AssocItemsOwner → Reading → Lists
lists_at file owner r = lists_of r (tree r (nodes_in file (r.world.oracle.expansion_depth file) (items_of r.world.oracle owner)))

-- the lists of an owner in a module, by its finished map, what that shows beside its bindings, and its crate's local map: where one of them is not there, they are empty
abbrev pub lists_by : Oracle → Session → ModuleId → HirFileId → AssocItemsOwner → Option MapView → Option MapState → Option LocalView → Lists
lists_by oracle session at file owner None shown known = no_lists
lists_by oracle session at file owner (Some map) None known = no_lists
lists_by oracle session at file owner (Some map) (Some state) None = no_lists
lists_by oracle session at file owner (Some map) (Some state) (Some local) = lists_at file owner (reading_at oracle session at map state local)

-- those of an owner in what contains it: traits and impls stand in modules
abbrev pub lists_in : Oracle → MapStates → Session → HirFileId → AssocItemsOwner → ItemContainerId → Lists
lists_in oracle states session file owner (Module at) = lists_by oracle session at file owner (finished_map oracle at.map) (finished_state states at.map) (oracle.local_def_map at.map.krate)
lists_in oracle states session file owner _ = no_lists

-- those of an owner at its location: one that the session does not know has none
abbrev pub owner_lists : Oracle → MapStates → Session → AssocItemsOwner → Option ItemLoc → Lists
owner_lists oracle states session owner None = no_lists
owner_lists oracle states session owner (Some loc) = lists_in oracle states session loc.position.file owner loc.container

-- what is answered of these lists: each item with its number in the session that is left
pub record IsAnswer (lists : Lists) (container : ItemContainerId) (session : Session) (items : List (Name × AssocItemId)) (calls : List (InFile FileAstId × MacroCallId)) (diagnostics : List DefDiagnostic) : Type 0 where
  pub numbered : AllZip (IsNumbered session container) lists.named items
  pub called : calls ≡ lists.calls
  pub reported : diagnostics ≡ lists.diagnostics
