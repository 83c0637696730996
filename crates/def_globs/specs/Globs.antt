-- What updates and added edges leave of a table.
use Rattle.std.specs.Prelude.{◌≡◌, ℕ, Bool, false, Option, Some, List, take}
use Rattle.tree_ids.specs.declared.name.Name.{Name}
use Rattle.def_ids.specs.declared.ids.ModuleId.{ModuleId}
use Rattle.def_ids.specs.declared.ids.GlobId.{GlobId}
use Rattle.def_bindings.specs.declared.bindings.Namespace.{Namespace}
use Rattle.def_bindings.specs.declared.bindings.Binding.{Binding}
use Rattle.def_bindings.specs.declared.bindings.EdgeTo.{EdgeTo}
use Rattle.def_bindings.specs.declared.bindings.Entry.{Entry}
use Rattle.def_bindings.specs.declared.bindings.Slot.{Slot}
use Rattle.def_bindings.specs.Order.{Order}
use Rattle.def_bindings.specs.Content.{Content, with_edge}
use Rattle.def_bindings.specs.Puts.{IsExplicit, puts, edge_to, joined}
use Rattle.def_bindings.specs.Closure.{IsBound, IsClosed, IsCoherent}
use Rattle.def_globs.specs.Waves.{Copies, def_at, slots_of, IsClosedTo, ListsAll, BeginsAt, LedOrHome, EntriesFollow}

-- a list is put in a module, and then copies of its slots follow, for each slot of the definition that the module has
abbrev pub Updates : {V : Type 0} → Order V → ModuleId → List (Entry V) → Content V → Content V → Type 0
Updates o at list old new = let placed = puts o at list old in Copies o (slots_of list) (def_at placed at) placed new

-- a beginning of that: the first entries of the list are put, and then some copies are made
abbrev pub BeginsUpdate : {V : Type 0} → Order V → ModuleId → List (Entry V) → Content V → Content V → Type 0
BeginsUpdate o at list old new = (n : ℕ) × Updates o at (take n list) old new

-- what stands whatever is put and copied, to the end or not: the edges, each explicit binding, and that what is bound is bound
pub record Stays {V : Type 0} (old new : Content V) : Type 0 where
  pub edges : new.edges ≡ old.edges
  pub explicit : (m : ModuleId) (name : Name) (ns : Namespace) (b : Binding V) → old.binding m name ns ≡ Some b → IsExplicit b.import → new.binding m name ns ≡ Some b
  pub bound : (m : ModuleId) (slot : Slot) → IsBound old m slot → IsBound new m slot

-- names stay closed along globs, whatever is left out
abbrev pub KeepsClosed : {V : Type 0} → Order V → Content V → Content V → Type 0
KeepsClosed o old new = (left_out : ModuleId → Bool) → IsClosed o left_out old → IsClosed o left_out new

-- names stay coherent, where each known glob's edges begin at its target, its bindings stand where they lead or in the list's module, and its entries are what the target binds
abbrev pub KeepsCoherent : {V : Type 0} → Order V → ModuleId → List (Entry V) → Content V → Content V → Type 0
KeepsCoherent o at list old new = (left_out : ModuleId → Bool) (target_of : GlobId → Option ModuleId)
    → BeginsAt target_of old → LedOrHome left_out target_of at old → EntriesFollow left_out target_of at list old → IsCoherent o left_out target_of old
    → IsCoherent o left_out target_of new × LedOrHome left_out target_of at new

-- where the list has all that a module binds and the list's module sees, an edge between the two would be closed
abbrev pub ClosesTo : {V : Type 0} → Order V → ModuleId → List (Entry V) → Content V → Content V → Type 0
ClosesTo o at list old new = (target : ModuleId) → ListsAll o list old target at → IsClosedTo o new target at

-- an edge recorded beside the one that may be there
abbrev pub with_recorded : {V : Type 0} → Order V → Content V → ModuleId → EdgeTo V → Content V
with_recorded o c source edge = with_edge c source (joined o (edge_to (c.edges source) edge.importer) edge)

-- names stay closed, where the new edge is closed as it is added
abbrev pub KeepsClosedWith : {V : Type 0} → Order V → ModuleId → ModuleId → Content V → Content V → Type 0
KeepsClosedWith o source importer old new = (left_out : ModuleId → Bool) → (left_out importer ≡ false → IsClosedTo o old source importer)
    → IsClosed o left_out old → IsClosed o left_out new

-- edges of known globs still begin at their targets, where the new one does
abbrev pub KeepsBegins : {V : Type 0} → ModuleId → GlobId → Content V → Content V → Type 0
KeepsBegins source glob old new = (target_of : GlobId → Option ModuleId) → ((target : ModuleId) → target_of glob ≡ Some target → source ≡ target)
    → BeginsAt target_of old → BeginsAt target_of new

-- names stay coherent, whatever is left out and wherever globs lead
abbrev pub StaysCoherent : {V : Type 0} → Order V → Content V → Content V → Type 0
StaysCoherent o old new = (left_out : ModuleId → Bool) (target_of : GlobId → Option ModuleId) → IsCoherent o left_out target_of old → IsCoherent o left_out target_of new
