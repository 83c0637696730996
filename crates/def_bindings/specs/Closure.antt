-- Names are closed and coherent along globs.
use Rattle.std.specs.Prelude.{◌≡◌, ◌⊎◌, ℕ, Bool, true, false, Option, Some, slice_get}
use Rattle.tree_ids.specs.declared.name.Name.{Name}
use Rattle.def_ids.specs.declared.ids.ModuleId.{ModuleId}
use Rattle.def_ids.specs.declared.ids.GlobId.{GlobId}
use Rattle.def_ids.specs.declared.ids.Def.{Def}
use Rattle.def_bindings.specs.declared.bindings.Namespace.{Namespace}
use Rattle.def_bindings.specs.declared.bindings.ImportOrExternCrate.TheVariants.{Glob}
use Rattle.def_bindings.specs.declared.bindings.Binding.{Binding}
use Rattle.def_bindings.specs.declared.bindings.EdgeTo.{EdgeTo}
use Rattle.def_bindings.specs.declared.bindings.Slot.{Slot}
use Rattle.def_bindings.specs.declared.bindings.Slot.TheVariants.{Named}
use Rattle.def_bindings.specs.Content.{Content}
use Rattle.def_bindings.specs.Order.{Order}
use Rattle.def_bindings.specs.Puts.{held}

-- something is bound at a slot
abbrev pub IsBound : {V : Type 0} → Content V → ModuleId → Slot → Type 0
IsBound c m slot = (b : Binding _) × (held c m slot ≡ Some b)

-- for each edge, what its source binds and its importer sees is bound at the importer; left-out modules are no importers
abbrev pub IsClosed : {V : Type 0} → Order V → (ModuleId → Bool) → Content V → Type 0
IsClosed o left_out c = (source : ModuleId) (index : ℕ) (edge : EdgeTo _) (slot : Slot) (b : Binding _)
    → slice_get (c.edges source) index ≡ Some edge
    → left_out edge.importer ≡ false
    → held c source slot ≡ Some b
    → o.can_see edge.importer b.vis ≡ true
    → IsBound c edge.importer slot

-- a module binds the slot to this definition, or with a visibility that the importer does not see
abbrev pub Follows : {V : Type 0} → Order V → Content V → ModuleId → ModuleId → Slot → Def → Type 0
Follows o c source importer slot def = (b : Binding _) × (held c source slot ≡ Some b) × ((b.def ≡ def) ⊎ (o.can_see importer b.vis ≡ false))

-- what a glob with a known target bound, its target binds too
abbrev pub IsCoherent : {V : Type 0} → Order V → (ModuleId → Bool) → (GlobId → Option ModuleId) → Content V → Type 0
IsCoherent o left_out target_of c = (importer : ModuleId) (name : Name) (ns : Namespace) (b : Binding _) (glob : GlobId) (target : ModuleId)
    → c.binding importer name ns ≡ Some b
    → b.import ≡ Some (Glob glob)
    → target_of glob ≡ Some target
    → left_out importer ≡ false
    → left_out target ≡ false
    → Follows o c target importer (Named name ns) b.def
