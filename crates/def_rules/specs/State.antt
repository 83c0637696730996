-- The state of a run, and what a run is given.
use Rattle.std.specs.Prelude.{◌≡◌, ℕ, Bool, true, List, [], ◌∷◌, ◌++◌, map, Option, None, Some, unwrap_or, IsPermutation}
use Rattle.tree_ids.specs.declared.ids.AttrId.{AttrId}
use Rattle.tree_ids.specs.declared.ids.FileAstId.{FileAstId}
use Rattle.tree_ids.specs.declared.ids.HirFileId.{HirFileId}
use Rattle.tree_ids.specs.declared.ids.InFile.{InFile}
use Rattle.tree_ids.specs.declared.ids.ModItemId.{ModItemId}
use Rattle.tree_ids.specs.declared.ids.TreeId.{TreeId}
use Rattle.item_tree.specs.declared.items.RawVisibility.{RawVisibility}
use Rattle.item_tree.specs.declared.items.UseImport.{UseImport}
use Rattle.tree_ids.specs.declared.name.Name.{Name}
use Rattle.def_ids.specs.declared.ids.ItemContainerId.{ItemContainerId}
use Rattle.def_ids.specs.declared.ids.ItemContainerId.TheVariants.{Module}
use Rattle.def_ids.specs.declared.ids.FunctionId.{FunctionId}
use Rattle.def_ids.specs.declared.ids.ModuleId.{ModuleId}
use Rattle.def_ids.specs.declared.ids.UseId.{UseId}
use Rattle.def_ids.specs.Ids.{is_same_module}
use Rattle.def_interner.specs.Session.{Session}
use Rattle.def_bindings.specs.declared.bindings.Binding.{Binding}
use Rattle.def_bindings.specs.declared.bindings.EdgeTo.{EdgeTo}
use Rattle.def_bindings.specs.declared.bindings.Entry.{Entry}
use Rattle.def_bindings.specs.declared.bindings.Namespace.{Namespace}
use Rattle.def_bindings.specs.declared.visibility.Visibility.{Visibility}
use Rattle.def_bindings.specs.Content.{Content, is_name}
use Rattle.def_bindings.specs.Order.{Order}
use Rattle.def_bindings.specs.Visibility.{order_over}
use Rattle.def_modules.specs.MapState.{MapState}
use Rattle.def_modules.specs.MapView.{MapView, LocalView}
use Rattle.def_modules.specs.Maps.{facts_in}
use Rattle.def_oracle.specs.Oracle.{Oracle}
use Rattle.def_sources.specs.Sources.{World}
use Rattle.def_modules.specs.Updates.{set_where}
use Rattle.def_readings.specs.Directories.{Directory}
use Rattle.def_rules.specs.declared.diagnostics.DefDiagnostic.{DefDiagnostic}
use Rattle.def_rules.specs.declared.inner_calls.InnerCall.{InnerCall}
use Rattle.def_rules.specs.Globs.{Targets}
use Rattle.def_rules.specs.Waiting.{Deferrals, Expansion, MacroDirective, WrittenDerive}

-- what a run is given: the oracle, the seeded map, the tree, and for a block the names of crates that its crate knows
pub record Setting : Type 0 where
  pub oracle : Oracle
  pub seeded : MapState
  pub tree : TreeId
  pub crate_local : Option LocalView

-- one import of a `use`, with the module and the item that it stands in
pub record Import : Type 0 where
  pub scope : ModuleId
  pub position : InFile FileAstId
  pub use_id : UseId
  -- its path, alias and kind, as they are written
  pub written : UseImport
  pub vis : RawVisibility
  -- whether the item has `#[prelude_import]`
  pub is_prelude : Bool

-- a set of namespaces
pub record NsSet : Type 0 where
  pub types : Bool
  pub values : Bool
  pub macros : Bool

-- an import that may still be recorded, with the namespaces that it was recorded from so far: with none it is unresolved, with some indeterminate
pub record ImportDirective : Type 0 where
  pub import : Import
  pub recorded : NsSet

-- all that a run has so far
pub record State : Type 0 where
  pub session : Session
  pub map : MapState
  pub content : Content Visibility
  -- what each glob was recorded with
  pub targets : Targets
  -- the names of crates that the map's own paths may begin with
  pub local : LocalView
  -- for a block, those that its crate knows, which stand in their place
  pub outer : Option LocalView
  -- the crates that the crate depends on, by their names
  pub deps : LocalView
  -- the names of the extern crates that were not found
  pub missing_crates : Name → Bool
  -- whether the crate is one of procedural macros
  pub is_proc_macro : Bool
  -- the directory of each module that a walk began in
  pub directories : ModuleId → Option Directory
  -- the imports that are not resolved
  pub imports : List ImportDirective
  -- of each item of a file, the attribute that was passed over, with those before it
  pub skipped : HirFileId → ModItemId → Option AttrId
  -- of the item at each position, the attributes that expansions are not to see
  pub active : InFile FileAstId → List AttrId
  -- the builtin derives that are not expanded, each until its item is handled or replaced; the order of positions tells nothing
  pub deferred : Deferrals
  -- the macro calls, items and derives that wait for their macros
  pub macros : List MacroDirective
  -- the calls that were made for the arguments of those that were asked, and are to be recorded
  pub inner_calls : List InnerCall
  -- the expansions that are to be walked, of what waited
  pub expansions : List Expansion
  pub diagnostics : List DefDiagnostic

-- a state in which no call is to be recorded that was made for arguments, and no expansion is to be walked
pub record IsBare (s : State) : Type 0 where
  pub inner_calls : s.inner_calls ≡ []
  pub expansions : s.expansions ≡ []

-- where the items of a list stand: their module, what contains them, the tree that holds them, how deep in expansions of macros, and the directory of their modules' files
pub record Site : Type 0 where
  pub scope : ModuleId
  -- the module, or an extern block in it
  pub container : ItemContainerId
  pub tree : TreeId
  pub depth : ℕ
  pub directory : Directory

-- where a module's own items stand
abbrev pub module_site : ModuleId → TreeId → ℕ → Directory → Site
module_site m tree depth directory = record { scope = m; container = Module m; tree = tree; depth = depth; directory = directory }

-- work that is done in order
pub data Task : Type 0 where
  -- a walk begins: the module's directory is stored
  Enter : ModuleId → Directory → Task
  -- an item is visited
  Visit : Site → ModItemId → Task
  -- a derive of an attribute that waited is tried before it waits itself
  TryDerive : MacroDirective → WrittenDerive → Task
  -- an entry is put into a module
  Put : ModuleId → Entry Visibility → Task
  -- the last textual macro of each name of a module is defined in another
  Bring : ModuleId → ModuleId → Task
  -- an edge is added to a module
  AddEdge : ModuleId → EdgeTo Visibility → Task
  -- the function of a procedural macro is taken out of a module's values
  TakeOut : ModuleId → Name → FunctionId → Task

-- each entry of a list is put into a module
abbrev pub put_each : ModuleId → List (Entry Visibility) → List Task
put_each at list = map (λ entry. Put at entry) list

-- what happened in a run
pub data Event : Type 0 where
  -- an explicit binding was put
  PutExplicit : ModuleId → Name → Namespace → Binding Visibility → Event
  -- an import was recorded; true: from another crate
  Recorded : Import → Bool → Event
  -- the function of a procedural macro was taken out of a module's values
  TookOut : ModuleId → Name → FunctionId → Event

-- what a rule does: the state after it, what is to be done next, and what happened
pub record Effect : Type 0 where
  pub state : State
  pub tasks : List Task
  pub events : List Event

-- an effect with one more event
abbrev pub noting : Event → Effect → Effect
noting event effect = record effect { events = event ∷ effect.events }

-- a change with nothing to follow
abbrev pub only : State → Effect
only s = record { state = s; tasks = []; events = [] }

-- a change that tasks follow
abbrev pub followed_by : State → List Task → Effect
followed_by s tasks = record { state = s; tasks = tasks; events = [] }

-- a moment of a run: what is to be done next, in order, the state, and what has happened so far
pub record Moment : Type 0 where
  pub tasks : List Task
  pub state : State
  pub events : List Event

-- the moment after a rule: its own tasks go before the rest, and its events are added
abbrev pub after : Moment → List Task → Effect → Moment
after a rest effect = record { tasks = effect.tasks ++ rest; state = effect.state; events = a.events ++ effect.events }

-- the moment with another state
abbrev pub with_state : Moment → State → Moment
with_state a s = record a { state = s }

-- the state with another table
abbrev pub with_content : State → Content Visibility → State
with_content s content = record s { content = content }

-- the state with another map
abbrev pub with_map : State → MapState → State
with_map s m = record s { map = m }

-- the state with this directory for a module, in the place of an earlier one
abbrev pub entered : State → ModuleId → Directory → State
entered s at directory = record s { directories = set_where (is_same_module at) (Some directory) s.directories }

-- the state with one more diagnostic
abbrev pub reported : State → DefDiagnostic → State
reported s diagnostic = record s { diagnostics = s.diagnostics ++ diagnostic ∷ [] }

-- the state in which this name is one of a crate that was not found
abbrev pub with_missing : Option Name → State → State
with_missing None s = s
with_missing (Some name) s = record s { missing_crates = set_where (is_name name) true s.missing_crates }

-- the order of visibilities so far
abbrev pub order : State → Order Visibility
order s = order_over (facts_in s.map).chain

-- the map so far
abbrev pub map_view : State → MapView
map_view s = record { facts = facts_in s.map; content = s.content }

-- what paths are read against
abbrev pub world : Oracle → State → World
world oracle s = record { oracle = oracle; session = s.session; map = map_view s; local = unwrap_or s.outer s.local }

-- the map's root
abbrev pub root : MapState → ModuleId
root m = record { map = m.id; index = 0 }

-- the same state with its imports in another order
pub record Rearranges (old new : State) : Type 0 where
  pub imports : IsPermutation old.imports new.imports
  pub rest : new ≡ record old { imports = new.imports }
