-- The names of one module, each with its bindings, at worked rows.
use Rattle.std.proofs.Common.{◌≡◌, ℕ, true, false, Some, None, List, [], ◌∷◌, refl}
use Rattle.tree_ids.specs.declared.name.Name.{Name}
use Rattle.def_ids.specs.declared.ids.Def.TheVariants.{Struct}
use Rattle.def_bindings.specs.declared.bindings.Namespace.TheVariants.{Types, Values, Macros}
use Rattle.def_bindings.specs.declared.bindings.Binding.{Binding}
use Rattle.def_bindings.specs.declared.name_bindings.NameBindings.{NameBindings}
use Rattle.def_bindings.specs.NameBindings.{unbound, with_bound}
use Rattle.def_tables.specs.RowEntries.{binding_in, bindings_left, are_bound}

abbrev name : ℕ → Name
name n = record { 0 = n }

abbrev bind : ℕ → Binding ℕ
bind n = record { def = Struct (record { 0 = n }); vis = 0; import = None }

-- a name with a type and a value, and one with a macro
abbrev both : NameBindings ℕ
both = with_bound (with_bound unbound Types (Some (bind 1))) Values (Some (bind 2))

abbrev macro_alone : NameBindings ℕ
macro_alone = with_bound unbound Macros (Some (bind 3))

abbrev entries : List (Name × NameBindings ℕ)
entries = (name 40, both) ∷ (name 41, macro_alone) ∷ []

found_by_namespace : (binding_in entries (name 40) Values ≡ Some (bind 2)) × (binding_in entries (name 40) Macros ≡ None) × (binding_in entries (name 42) Types ≡ None)
found_by_namespace = (refl, refl, refl)

-- a name stays with the binding that is left, and goes with its last one
type_out : bindings_left entries (name 40) Types ≡ (name 40, with_bound unbound Values (Some (bind 2))) ∷ (name 41, macro_alone) ∷ []
type_out = refl

macro_out : bindings_left entries (name 41) Macros ≡ (name 40, both) ∷ []
macro_out = refl

-- what is not there leaves all as it is
nothing_out : (bindings_left entries (name 41) Types ≡ entries) × (bindings_left entries (name 42) Types ≡ entries)
nothing_out = (refl, refl)

all_bound : (are_bound entries ≡ true) × (are_bound ((name 42, unbound {V = ℕ}) ∷ entries) ≡ false)
all_bound = (refl, refl)
