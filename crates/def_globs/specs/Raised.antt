-- Bindings are raised along globs: a visibility that rises, rises wherever the name was copied.
use Rattle.std.specs.Prelude.{◌≡◌, ℕ, Bool, true, false, Some, List, [], ◌∷◌, slice_get, Contains, ◌⊎◌}
use Rattle.def_ids.specs.declared.ids.ModuleId.{ModuleId}
use Rattle.def_ids.specs.declared.ids.GlobId.{GlobId}
use Rattle.def_bindings.specs.declared.bindings.ImportOrExternCrate.TheVariants.{Glob}
use Rattle.def_bindings.specs.declared.bindings.Binding.{Binding}
use Rattle.def_bindings.specs.declared.bindings.EdgeTo.{EdgeTo}
use Rattle.def_bindings.specs.declared.bindings.Entry.{Entry}
use Rattle.def_bindings.specs.declared.bindings.Slot.{Slot}
use Rattle.def_bindings.specs.Order.{Order, rises_to}
use Rattle.def_bindings.specs.Content.{Content}
use Rattle.def_bindings.specs.Puts.{held, fitted, carried, put_entry, slot_of, offered}
use Rattle.def_bindings.specs.Closure.{IsClosed}
use Rattle.def_globs.specs.Pending.{Pending, AllAt, ClosedBut}

-- what an edge would carry now does not raise the binding that a glob, any, made of the same definition at the importer
abbrev pub IsRaisedAlong : {V : Type 0} → Order V → Content V → ModuleId → EdgeTo V → Slot → Type 0
IsRaisedAlong o c source edge slot = (b there : Binding _) (glob : GlobId)
    → held c source slot ≡ Some b
    → o.can_see edge.importer b.vis ≡ true
    → held c edge.importer slot ≡ Some there
    → there.import ≡ Some (Glob glob)
    → there.def ≡ b.def
    → rises_to o there.vis (carried o edge b).vis ≡ false

-- no edge to this place would raise it
abbrev pub IsRaisedAt : {V : Type 0} → Order V → Content V → ModuleId → Slot → Type 0
IsRaisedAt o c importer slot = (source : ModuleId) (index : ℕ) (edge : EdgeTo _)
    → slice_get (c.edges source) index ≡ Some edge
    → edge.importer ≡ importer
    → IsRaisedAlong o c source edge slot

-- for each edge, what it would carry raises nothing; left-out modules are no importers
abbrev pub IsRaised : {V : Type 0} → Order V → (ModuleId → Bool) → Content V → Type 0
IsRaised o left_out c = (importer : ModuleId) (slot : Slot) → left_out importer ≡ false → IsRaisedAt o c importer slot

-- a place has one definition, in two contents, where something is bound there in both
abbrev pub KeepsDef : {V : Type 0} → Content V → Content V → ModuleId → Slot → Type 0
KeepsDef old new m slot = (a b : Binding _) → held old m slot ≡ Some a → held new m slot ≡ Some b → a.def ≡ b.def

-- a place of a list's module keeps its definition at each entry that is put
abbrev pub KeepsDefs : {V : Type 0} → Order V → ModuleId → List (Entry V) → Content V → Slot → Type 0
KeepsDefs o at [] c slot = Unit {0}
KeepsDefs o at (e ∷ es) c slot = KeepsDef c (put_entry o at e c) at slot × KeepsDefs o at es (put_entry o at e c) slot

-- a list has one definition for a slot
abbrev pub HasOneDef : {V : Type 0} → List (Entry V) → Slot → Type 0
HasOneDef list slot = (e f : Entry _) → Contains list e → Contains list f → slot_of e ≡ Some slot → slot_of f ≡ Some slot → e.def ≡ f.def

-- a place that is raised stays so, where it keeps its definition and names are closed at its module; in the list's module it keeps it at each entry
abbrev pub KeepsRaised : {V : Type 0} → Order V → ModuleId → List (Entry V) → Content V → Content V → Type 0
KeepsRaised o at list old new = (left_out : ModuleId → Bool) → IsClosed o left_out old
    → (importer : ModuleId) (slot : Slot) → left_out importer ≡ false
    → KeepsDef old new importer slot → (importer ≡ at → KeepsDefs o at list old slot)
    → IsRaisedAt o old importer slot → IsRaisedAt o new importer slot

-- a place that is raised stays so, where the new edge does not raise it as it is added
abbrev pub KeepsRaisedWith : {V : Type 0} → Order V → ModuleId → EdgeTo V → Content V → Content V → Type 0
KeepsRaisedWith o source edge old new = (importer : ModuleId) (slot : Slot)
    → (edge.importer ≡ importer → IsRaisedAlong o old source edge slot)
    → IsRaisedAt o old importer slot → IsRaisedAt o new importer slot

-- where the place has the definition that it had in an old content, no edge would raise it, but for what is pending
abbrev pub RaisedBut : {V : Type 0} → Order V → Content V → Pending → ModuleId → Slot → Content V → Type 0
RaisedBut o old P importer slot c = KeepsDef old c importer slot
    → (source : ModuleId) (index : ℕ) (edge : EdgeTo _) (b there : Binding _) (glob : GlobId)
    → slice_get (c.edges source) index ≡ Some edge
    → edge.importer ≡ importer
    → held c source slot ≡ Some b
    → o.can_see importer b.vis ≡ true
    → held c importer slot ≡ Some there
    → there.import ≡ Some (Glob glob)
    → there.def ≡ b.def
    → (rises_to o there.vis (carried o edge b).vis ≡ false) ⊎ P source index slot

-- where only these slots of a module are pending, places that keep their definition are raised afterwards
abbrev pub RaisesPending : {V : Type 0} → Order V → ModuleId → List Slot → Content V → Content V → Type 0
RaisesPending o at slots old new = (left_out : ModuleId → Bool) → ClosedBut o left_out (AllAt at slots) old
    → (importer : ModuleId) (slot : Slot) → left_out importer ≡ false → KeepsDef old new importer slot
    → RaisedBut o old (AllAt at slots) importer slot old → IsRaisedAt o new importer slot

-- the list has what an edge would carry from a slot of its source
abbrev pub ListsCarried : {V : Type 0} → Order V → List (Entry V) → Content V → ModuleId → EdgeTo V → Slot → Type 0
ListsCarried o list c source edge slot = (b : Binding _) → held c source slot ≡ Some b → o.can_see edge.importer b.vis ≡ true
    → (e : Entry _) × Contains list e × (slot_of e ≡ Some slot) × (fitted slot (offered e) ≡ fitted slot (carried o edge b))

-- where the list has what an edge from a target to the list's module would carry, and the target's binding stays, that edge would raise nothing
abbrev pub RaisesTo : {V : Type 0} → Order V → ModuleId → List (Entry V) → Content V → Content V → Type 0
RaisesTo o at list old new = (target : ModuleId) (edge : EdgeTo _) (slot : Slot) → edge.importer ≡ at
    → ListsCarried o list old target edge slot → HasOneDef list slot → KeepsDef old new at slot
    → held new target slot ≡ held old target slot
    → IsRaisedAlong o new target edge slot
