-- What is of a map: its modules, the imports in them, and what is to be done in them.
use Rattle.std.specs.Prelude.{◌≡◌, ◌<◌, ℕ, true, List, [], ◌∷◌, length, slice_get, Some, Contains}
use Rattle.tree_ids.specs.declared.name.Name.{Name}
use Rattle.def_ids.specs.declared.ids.Def.{Def}
use Rattle.def_ids.specs.declared.ids.GlobId.{GlobId}
use Rattle.def_ids.specs.declared.ids.ModuleId.{ModuleId}
use Rattle.def_bindings.specs.declared.bindings.Binding.{Binding}
use Rattle.def_bindings.specs.declared.bindings.EdgeTo.{EdgeTo}
use Rattle.def_bindings.specs.declared.bindings.ImportOrExternCrate.TheVariants.{Glob}
use Rattle.def_bindings.specs.declared.bindings.Namespace.{Namespace}
use Rattle.def_bindings.specs.declared.bindings.Slot.{Slot}
use Rattle.def_bindings.specs.declared.visibility.Visibility.{Visibility}
use Rattle.def_bindings.specs.Closure.{IsBound}
use Rattle.def_bindings.specs.Content.{Content, is_listed}
use Rattle.def_bindings.specs.Tree.{AreParentsLower}
use Rattle.def_modules.specs.MapState.{MapState}
use Rattle.def_globs.specs.Waves.{HoldsBy}
use Rattle.def_rules.specs.Globs.{Targets}
use Rattle.def_rules.specs.State.{State, ImportDirective, Task}
use Rattle.def_laws.specs.Depths.{WaitsIn}
use Rattle.def_laws.specs.Roles.{Role, puts, links, takes, stays, role_of, place_of}

-- a module of this map
abbrev pub IsOwn : MapState → ModuleId → Type 0
IsOwn m at = (at.map ≡ m.id) × (at.index < length m.parents)

-- a glob that was recorded with some definition
pub record IsRecorded (targets : Targets) (glob : GlobId) : Type 0 where
  pub first : Def
  pub others : List Def
  pub is : targets glob ≡ Some (first ∷ others)

-- modules bind only within this map, edges lead only to its modules, imports stand only in them, and only recorded globs have edges and bindings; names that are bound are listed
pub record AreOwn (m : MapState) (targets : Targets) (c : Content Visibility) (directives : List ImportDirective) : Type 0 where
  pub even : length m.parents ≡ length m.modules
  pub lower : AreParentsLower m.parents
  pub imports : (d : ImportDirective) → Contains directives d → IsOwn m d.import.scope
  pub bound : (at : ModuleId) (slot : Slot) → IsBound c at slot → IsOwn m at
  pub edges : (source : ModuleId) (index : ℕ) (edge : EdgeTo Visibility) → slice_get (c.edges source) index ≡ Some edge → IsOwn m edge.importer × IsRecorded targets edge.glob
  pub globs : (at : ModuleId) (name : Name) (ns : Namespace) (glob : GlobId) → HoldsBy c at name ns glob → IsRecorded targets glob
  pub listed : (at : ModuleId) (name : Name) (ns : Namespace) (b : Binding Visibility) → c.binding at name ns ≡ Some b → is_listed (c.names at) name ≡ true

-- what is put or linked for a glob is for one that was recorded
abbrev pub IsRecordedFor : Targets → Role → Type 0
IsRecordedFor targets (puts at entry) = (glob : GlobId) → entry.origin ≡ Some (Glob glob) → IsRecorded targets glob
IsRecordedFor targets (links source edge) = IsRecorded targets edge.glob
IsRecordedFor targets (takes at name function) = Unit {0}
IsRecordedFor targets stays = Unit {0}

-- a task is done in a module of this map, and for no glob that was not recorded
abbrev pub IsOwnTask : MapState → Targets → Task → Type 0
IsOwnTask m targets task = IsOwn m (place_of task) × IsRecordedFor targets (role_of task)

-- so is each of a list
abbrev pub AreOwnTasks : MapState → Targets → List Task → Type 0
AreOwnTasks m targets [] = Unit {0}
AreOwnTasks m targets (task ∷ tasks) = IsOwnTask m targets task × AreOwnTasks m targets tasks

-- a state with what is to be done in it is of its map alone
pub record Stands (todo : List Task) (s : State) : Type 0 where
  pub state : AreOwn s.map s.targets s.content s.imports
  pub tasks : AreOwnTasks s.map s.targets todo
  pub waiting : (at : ModuleId) → WaitsIn s at → IsOwn s.map at
