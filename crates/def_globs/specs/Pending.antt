-- What is left to do of a wave, and what a wave's parts change.
use Rattle.std.specs.Prelude.{◌≡◌, ℕ, Bool, true, false, cond, is_some, Option, Some, None, List, [], ◌∷◌, ◌++◌, take, slice_get, Contains, ◌⊎◌}
use Rattle.tree_ids.specs.declared.name.Name.{Name}
use Rattle.def_ids.specs.declared.ids.ModuleId.{ModuleId}
use Rattle.def_ids.specs.declared.ids.GlobId.{GlobId}
use Rattle.def_bindings.specs.declared.bindings.Namespace.{Namespace}
use Rattle.def_bindings.specs.declared.bindings.ImportOrExternCrate.TheVariants.{Glob}
use Rattle.def_bindings.specs.declared.bindings.Binding.{Binding}
use Rattle.def_bindings.specs.declared.bindings.EdgeTo.{EdgeTo}
use Rattle.def_bindings.specs.declared.bindings.Entry.{Entry}
use Rattle.def_bindings.specs.declared.bindings.Slot.{Slot}
use Rattle.def_bindings.specs.declared.bindings.Slot.TheVariants.{Named}
use Rattle.def_bindings.specs.Order.{Order}
use Rattle.def_bindings.specs.Content.{Content}
use Rattle.def_bindings.specs.Puts.{held, fitted, settled, answer, copied, slot_of, offered, put_entry, puts}
use Rattle.def_bindings.specs.Closure.{IsBound, Follows, IsClosed, IsCoherent}
use Rattle.def_globs.specs.Waves.{BeginsAt, Leads, LedOrHome}

-- slots copied along an edge, one after the other
abbrev pub copied_all : {V : Type 0} → Order V → ModuleId → EdgeTo V → List Slot → Content V → Content V
copied_all o source edge [] c = c
copied_all o source edge (slot ∷ slots) c = copied_all o source edge slots (copied o source edge slot c)

-- the first of these slots were copied along an edge
abbrev pub CopiesFirst : {V : Type 0} → Order V → ModuleId → EdgeTo V → List Slot → Content V → Content V → Type 0
CopiesFirst o source edge slots old new = (n : ℕ) × (new ≡ copied_all o source edge (take n slots) old)

-- the first entries of a list were put
abbrev pub PutsFirst : {V : Type 0} → Order V → ModuleId → List (Entry V) → Content V → Content V → Type 0
PutsFirst o m list old new = (n : ℕ) × (new ≡ puts o m (take n list) old)

-- whether a copy changes its importer
abbrev pub is_changed : {V : Type 0} → Order V → ModuleId → EdgeTo V → Slot → Content V → Bool
is_changed o source edge slot c = is_some (answer o edge slot (held c source slot) (held c edge.importer slot))

-- those of the slots whose copy changes the importer
abbrev pub reached : {V : Type 0} → Order V → ModuleId → EdgeTo V → List Slot → Content V → List Slot
reached o source edge [] c = []
reached o source edge (slot ∷ slots) c =
    cond (is_changed o source edge slot c) (slot ∷ []) [] ++ reached o source edge slots (copied o source edge slot c)

-- the slot of an entry, where its put changes something
abbrev pub changed_at : {V : Type 0} → Order V → ModuleId → Option Slot → Binding V → Content V → List Slot
changed_at o m None offer c = []
changed_at o m (Some slot) offer c = cond (is_some (settled o (held c m slot) (fitted slot offer))) (slot ∷ []) []

-- the slots that a list changes, in order
abbrev pub changed_by : {V : Type 0} → Order V → ModuleId → List (Entry V) → Content V → List Slot
changed_by o m [] c = []
changed_by o m (e ∷ es) c = changed_at o m (slot_of e) (offered e) c ++ changed_by o m es (put_entry o m e c)

-- those that travel: without an edge none does
abbrev pub carried_by : {V : Type 0} → Order V → ModuleId → List (Entry V) → Content V → List Slot
carried_by o m list c = cond (is_some (slice_get (c.edges m) 0)) (changed_by o m list c) []

-- what is still to be copied: a module's slot along the edge of an index
abbrev pub Pending : Type 1
Pending = ModuleId → ℕ → Slot → Type 0

-- these slots of one module are to be copied along each of its edges
abbrev pub AllAt : ModuleId → List Slot → Pending
AllAt m slots = λ n index slot. (n ≡ m) × Contains slots slot

-- closed, but for what is pending
abbrev pub ClosedBut : {V : Type 0} → Order V → (ModuleId → Bool) → Pending → Content V → Type 0
ClosedBut o left_out P c = (source : ModuleId) (index : ℕ) (edge : EdgeTo _) (slot : Slot) (b : Binding _)
    → slice_get (c.edges source) index ≡ Some edge
    → left_out edge.importer ≡ false
    → held c source slot ≡ Some b
    → o.can_see edge.importer b.vis ≡ true
    → IsBound c edge.importer slot ⊎ P source index slot

-- coherent, but for what is pending: the target binds the name, and it is to be copied along an edge of that glob
abbrev pub CoherentBut : {V : Type 0} → Order V → (ModuleId → Bool) → (GlobId → Option ModuleId) → Pending → Content V → Type 0
CoherentBut o left_out target_of P c = (importer : ModuleId) (name : Name) (ns : Namespace) (b : Binding _) (glob : GlobId) (target : ModuleId)
    → c.binding importer name ns ≡ Some b → b.import ≡ Some (Glob glob) → target_of glob ≡ Some target
    → left_out importer ≡ false → left_out target ≡ false
    → Follows o c target importer (Named name ns) b.def
    ⊎ (IsBound c target (Named name ns) × Leads c target importer glob (λ index. P target index (Named name ns)))

-- where only these slots of a module are pending, names are closed afterwards
abbrev pub ClosesPending : {V : Type 0} → Order V → ModuleId → List Slot → Content V → Content V → Type 0
ClosesPending o at slots old new = (left_out : ModuleId → Bool) → ClosedBut o left_out (AllAt at slots) old → IsClosed o left_out new

-- and coherent
abbrev pub MendsPending : {V : Type 0} → Order V → ModuleId → List Slot → Content V → Content V → Type 0
MendsPending o at slots old new = (left_out : ModuleId → Bool) (target_of : GlobId → Option ModuleId)
    → BeginsAt target_of old → LedOrHome left_out target_of at old → CoherentBut o left_out target_of (AllAt at slots) old
    → IsCoherent o left_out target_of new × LedOrHome left_out target_of at new
