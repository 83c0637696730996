-- Waves: what changed in a module is copied along the edges of globs, to the end.
use Rattle.std.specs.Prelude.{◌≡◌, ℕ, Bool, true, false, option_to_list, Option, Some, None, List, [], ◌∷◌, ◌++◌, slice_get, Contains, ◌⊎◌}
use Rattle.tree_ids.specs.declared.name.Name.{Name}
use Rattle.def_ids.specs.declared.ids.ModuleId.{ModuleId}
use Rattle.def_ids.specs.declared.ids.GlobId.{GlobId}
use Rattle.def_ids.specs.declared.ids.Def.{Def}
use Rattle.def_ids.specs.declared.ids.Def.TheVariants.{Builtin}
use Rattle.def_bindings.specs.declared.bindings.Namespace.{Namespace}
use Rattle.def_bindings.specs.declared.bindings.ImportOrExternCrate.TheVariants.{Glob}
use Rattle.def_bindings.specs.declared.bindings.Binding.{Binding}
use Rattle.def_bindings.specs.declared.bindings.EdgeTo.{EdgeTo}
use Rattle.def_bindings.specs.declared.bindings.Entry.{Entry}
use Rattle.def_bindings.specs.declared.bindings.Slot.{Slot}
use Rattle.def_bindings.specs.declared.bindings.Slot.TheVariants.{Named}
use Rattle.def_bindings.specs.Order.{Order}
use Rattle.def_bindings.specs.Content.{Content}
use Rattle.def_bindings.specs.Puts.{held, slot_of, copied, edge_to}
use Rattle.def_bindings.specs.Closure.{IsBound}

-- the second content comes from the first by copies along its edges, each of one of these slots; for each slot one definition is copied
pub data Copies {V : Type 0} (o : Order V) (slots : List Slot) (def_of : Slot → Def) : Content V → Content V → Type 0 where
  none : {c : Content V} → Copies o slots def_of c c
  more : {c d : Content V} (source : ModuleId) (edge : EdgeTo V) (slot : Slot) (index : ℕ) → Copies o slots def_of c d
      → slice_get (d.edges source) index ≡ Some edge → Contains slots slot
      → ((b : Binding V) → held d source slot ≡ Some b → b.def ≡ def_of slot)
      → Copies o slots def_of c (copied o source edge slot d)

-- the definition of a binding, or any where there is none
abbrev pub def_or : {V : Type 0} → Option (Binding V) → Def
def_or None = Builtin 0
def_or (Some b) = b.def

-- the definition that a module has at a slot, if it has one
abbrev pub def_at : {V : Type 0} → Content V → ModuleId → Slot → Def
def_at c m slot = def_or (held c m slot)

-- the slots of a list of entries
abbrev pub slots_of : {V : Type 0} → List (Entry V) → List Slot
slots_of [] = []
slots_of (e ∷ es) = option_to_list (slot_of e) ++ slots_of es

-- what a source binds and an importer sees is bound at the importer
abbrev pub IsClosedTo : {V : Type 0} → Order V → Content V → ModuleId → ModuleId → Type 0
IsClosedTo o c source importer = (slot : Slot) (b : Binding _) → held c source slot ≡ Some b → o.can_see importer b.vis ≡ true → IsBound c importer slot

-- all that a target binds and an importer sees stands in the list of entries
abbrev pub ListsAll : {V : Type 0} → Order V → List (Entry V) → Content V → ModuleId → ModuleId → Type 0
ListsAll o list c target importer = (slot : Slot) (b : Binding _) → held c target slot ≡ Some b → o.can_see importer b.vis ≡ true → Contains (slots_of list) slot

-- each edge of a glob with a known target begins at that target
abbrev pub BeginsAt : {V : Type 0} → (GlobId → Option ModuleId) → Content V → Type 0
BeginsAt target_of c = (source : ModuleId) (index : ℕ) (edge : EdgeTo _) (target : ModuleId)
    → slice_get (c.edges source) index ≡ Some edge → target_of edge.glob ≡ Some target → source ≡ target

-- an edge of the glob leads from the target to the importer, at an index of which Q holds
abbrev pub Leads : {V : Type 0} → Content V → ModuleId → ModuleId → GlobId → (ℕ → Type 0) → Type 0
Leads c target importer glob Q = (index : ℕ) × ((edge : EdgeTo _) × (slice_get (c.edges target) index ≡ Some edge) × (edge.importer ≡ importer) × (edge.glob ≡ glob) × Q index)

-- what a glob with a known target bound stands where an edge of it leads, or at home; modules that are left out are not asked
abbrev pub LedOrHome : {V : Type 0} → (ModuleId → Bool) → (GlobId → Option ModuleId) → ModuleId → Content V → Type 0
LedOrHome left_out target_of home c = (importer : ModuleId) (name : Name) (ns : Namespace) (b : Binding _) (glob : GlobId) (target : ModuleId)
    → c.binding importer name ns ≡ Some b → b.import ≡ Some (Glob glob) → target_of glob ≡ Some target
    → left_out importer ≡ false → left_out target ≡ false
    → (importer ≡ home) ⊎ Leads c target importer glob (λ _. Unit {0})

-- the same, with no home
abbrev pub Led : {V : Type 0} → (ModuleId → Bool) → (GlobId → Option ModuleId) → Content V → Type 0
Led left_out target_of c = (importer : ModuleId) (name : Name) (ns : Namespace) (b : Binding _) (glob : GlobId) (target : ModuleId)
    → c.binding importer name ns ≡ Some b → b.import ≡ Some (Glob glob) → target_of glob ≡ Some target
    → left_out importer ≡ false → left_out target ≡ false
    → Leads c target importer glob (λ _. Unit {0})

-- an entry by a glob with a known target has the definition that the target binds
abbrev pub EntriesFollow : {V : Type 0} → (ModuleId → Bool) → (GlobId → Option ModuleId) → ModuleId → List (Entry V) → Content V → Type 0
EntriesFollow left_out target_of m list c = (e : Entry _) (name : Name) (glob : GlobId) (target : ModuleId)
    → Contains list e → e.name ≡ Some name → e.origin ≡ Some (Glob glob) → target_of glob ≡ Some target
    → left_out m ≡ false → left_out target ≡ false
    → (b : Binding _) × (c.binding target name e.ns ≡ Some b) × (b.def ≡ e.def)

-- a place holds a binding by this glob
abbrev pub HoldsBy : {V : Type 0} → Content V → ModuleId → Name → Namespace → GlobId → Type 0
HoldsBy c m name ns glob = (b : Binding _) × (c.binding m name ns ≡ Some b) × (b.import ≡ Some (Glob glob))

-- an edge of the glob leads to the importer
abbrev pub IsLed : {V : Type 0} → Content V → ModuleId → GlobId → Type 0
IsLed c importer glob = (source : ModuleId) × ((index : ℕ) × ((edge : EdgeTo _) × (slice_get (c.edges source) index ≡ Some edge) × (edge.importer ≡ importer) × (edge.glob ≡ glob)))

-- an entry by this glob comes to a vacant place
pub record Brings {V : Type 0} (list : List (Entry V)) (c : Content V) (m : ModuleId) (name : Name) (ns : Namespace) (glob : GlobId) : Type 0 where
  pub entry : Entry V
  pub listed : Contains list entry
  pub slot : slot_of entry ≡ Some (Named name ns)
  pub by : entry.origin ≡ Some (Glob glob)
  pub vacant : c.binding m name ns ≡ None

-- what a glob binds it bound before, or an edge of it leads there, or in this module an entry of the list brought it to a vacant place
abbrev pub KeepsGlobs : {V : Type 0} → ModuleId → List (Entry V) → Content V → Content V → Type 0
KeepsGlobs at list old new = (m : ModuleId) (name : Name) (ns : Namespace) (glob : GlobId) → HoldsBy new m name ns glob
    → HoldsBy old m name ns glob ⊎ IsLed new m glob ⊎ ((m ≡ at) × Brings list old m name ns glob)

-- from each module at most one edge leads to an importer
abbrev pub AreSingle : {V : Type 0} → Content V → Type 0
AreSingle c = (source : ModuleId) (i j : ℕ) (e f : EdgeTo _) → slice_get (c.edges source) i ≡ Some e → slice_get (c.edges source) j ≡ Some f → e.importer ≡ f.importer → i ≡ j

-- what an added edge leaves of where globs lead: where none was there, it leads by its own glob
pub record AddsEdge {V : Type 0} (source importer : ModuleId) (glob : GlobId) (old new : Content V) : Type 0 where
  pub single : AreSingle old → AreSingle new
  pub kept : AreSingle old → (target m : ModuleId) (g : GlobId) → Leads old target m g (λ _. Unit {0}) → Leads new target m g (λ _. Unit {0})
  pub leads : edge_to (old.edges source) importer ≡ None → Leads new source importer glob (λ _. Unit {0})
