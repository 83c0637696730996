-- What is put where, row by row.
use Rattle.std.proofs.Common.{◌≡◌, Bool, true, false, not, ◌||◌, ◌&&◌, Some, None, refl, ℕ, [], ◌∷◌}
use Rattle.tree_ids.specs.declared.name.Name.{Name}
use Rattle.def_ids.specs.declared.ids.ModuleId.{ModuleId}
use Rattle.def_ids.specs.declared.ids.TraitId.{TraitId}
use Rattle.def_ids.specs.declared.ids.Def.{Def}
use Rattle.def_ids.specs.declared.ids.Def.TheVariants.{Struct, Trait}
use Rattle.def_bindings.specs.declared.bindings.Namespace.TheVariants.{Types, Values}
use Rattle.def_bindings.specs.declared.bindings.ImportOrExternCrate.TheVariants.{Glob, Import}
use Rattle.def_bindings.specs.declared.bindings.Binding.{Binding}
use Rattle.def_bindings.specs.declared.bindings.Entry.{Entry}
use Rattle.def_bindings.specs.declared.bindings.EdgeTo.{EdgeTo}
use Rattle.def_bindings.specs.declared.bindings.Slot.TheVariants.{Named, Unnamed}
use Rattle.def_bindings.specs.Order.{Order}
use Rattle.def_bindings.specs.Slots.{is_same_slot, is_same_place}
use Rattle.def_bindings.specs.Content.{Content, empty, with_binding}
use Rattle.def_bindings.specs.Puts.{Origin, settled, put_entry, puts, slot_of, held, lessened, copied, joined, edge_to, unnamed_binding}

-- two levels, the low one below the high one; only the high one is seen
abbrev levels : Order Bool
levels = record { at_most = λ a b. not a || b; can_see = λ place v. v }

-- two values that are unrelated: each is at most itself alone
abbrev unrelated : Order Bool
unrelated = record { at_most = λ a b. (a || not b) && (not a || b); can_see = λ place v. v }

abbrev low : Bool
low = false

abbrev high : Bool
high = true

abbrev one : Def
one = Struct (record { 0 = 1 })

abbrev two : Def
two = Struct (record { 0 = 2 })

abbrev glob : ℕ → Origin
glob n = Some (Glob (record { use_id = record { 0 = n }; idx = 0 }))

abbrev import : Origin
import = Some (Import (record { use_id = record { 0 = 9 }; idx = 0 }))

abbrev bind : Def → Bool → Origin → Binding Bool
bind d v from = record { def = d; vis = v; import = from }

-- nothing there: bound
vacant : settled levels None (bind one low (glob 1)) ≡ Some (bind one low (glob 1))
vacant = refl

-- a declaration and an import replace a glob's binding, whatever its visibility
yields_to_declaration : settled levels (Some (bind one high (glob 1))) (bind two low None) ≡ Some (bind two low None)
yields_to_declaration = refl

yields_to_import : settled levels (Some (bind one high (glob 1))) (bind one low import) ≡ Some (bind one low import)
yields_to_import = refl

-- a glob with the same definition and a greater visibility raises it, and the origin stays
raised : settled levels (Some (bind one low (glob 1))) (bind one high (glob 2)) ≡ Some (bind one high (glob 1))
raised = refl

-- the same glob with another definition replaces both
follows_source : settled levels (Some (bind one high (glob 1))) (bind two low (glob 1)) ≡ Some (bind two low (glob 1))
follows_source = refl

-- all else changes nothing
declaration_stays : settled levels (Some (bind one low None)) (bind two high None) ≡ None
declaration_stays = refl

import_stays : settled levels (Some (bind one low import)) (bind one high (glob 1)) ≡ None
import_stays = refl

not_lowered : settled levels (Some (bind one high (glob 1))) (bind one low (glob 1)) ≡ None
not_lowered = refl

not_raised_again : settled levels (Some (bind one high (glob 1))) (bind one high (glob 2)) ≡ None
not_raised_again = refl

first_glob_stays : settled levels (Some (bind one low (glob 1))) (bind two high (glob 2)) ≡ None
first_glob_stays = refl

-- the visibility that is put: the lesser, and the import's where they are unrelated
item_is_lesser : lessened levels low high ≡ low
item_is_lesser = refl

import_is_lesser : lessened levels high low ≡ low
import_is_lesser = refl

unrelated_takes_the_import : lessened unrelated high low ≡ low
unrelated_takes_the_import = refl

unrelated_takes_the_import_again : lessened unrelated low high ≡ high
unrelated_takes_the_import_again = refl

-- two modules of a crate, a name and a trait
abbrev here : ModuleId
here = record { map = record { krate = record { 0 = 0 }; block = None }; index = 0 }

abbrev there : ModuleId
there = record { map = record { krate = record { 0 = 0 }; block = None }; index = 1 }

abbrev name : Name
name = record { 0 = 40 }

abbrev tr : TraitId
tr = record { 0 = 5 }

abbrev unnamed : Def → Bool → Entry Bool
unnamed d v = record { name = None; ns = Types; def = d; vis = v; origin = import }

-- an unnamed trait is added, raised and never lowered
unnamed_added : held (put_entry levels here (unnamed (Trait tr) low) empty) here (Unnamed tr) ≡ Some (unnamed_binding tr low)
unnamed_added = refl

unnamed_raised : held (put_entry levels here (unnamed (Trait tr) high) (put_entry levels here (unnamed (Trait tr) low) empty)) here (Unnamed tr) ≡ Some (unnamed_binding tr high)
unnamed_raised = refl

unnamed_not_lowered : held (put_entry levels here (unnamed (Trait tr) low) (put_entry levels here (unnamed (Trait tr) high) empty)) here (Unnamed tr) ≡ Some (unnamed_binding tr high)
unnamed_not_lowered = refl

-- a trait that is found in values or macros alone stays where it is
trait_in_values_ignored : (c : Content Bool) → put_entry levels here (record (unnamed (Trait tr) high) { ns = Values }) c ≡ c
trait_in_values_ignored c = refl

-- an entry without a name that is no trait is ignored
nameless_ignored : (c : Content Bool) → put_entry levels here (unnamed one high) c ≡ c
nameless_ignored c = refl

-- an entry of a name
abbrev named : Def → Bool → Origin → Entry Bool
named d v from = record { name = Some name; ns = Types; def = d; vis = v; origin = from }

-- the slot of an entry is its name's, or that of the trait without a name
slots_of_entries : (slot_of (named one low import) ≡ Some (Named name Types)) × (slot_of (unnamed (Trait tr) low) ≡ Some (Unnamed tr)) × (slot_of (unnamed one low) ≡ None)
slots_of_entries = (refl, refl, refl)

-- entries are put in order: the second raises the first, keeping its glob
second_raises : held (puts levels here (named one low (glob 1) ∷ named one high (glob 2) ∷ []) empty) here (Named name Types) ≡ Some (bind one high (glob 1))
second_raises = refl

-- a glob's entry yields to an import, before it or behind it
second_yields : held (puts levels here (named one low import ∷ named two high (glob 1) ∷ []) empty) here (Named name Types) ≡ Some (bind one low import)
second_yields = refl

second_replaces : held (puts levels here (named two high (glob 1) ∷ named one low import ∷ []) empty) here (Named name Types) ≡ Some (bind one low import)
second_replaces = refl

-- slots are one by name and namespace, or by trait; places by module too
same_slots : (is_same_slot (Named name Types) (Named name Types) ≡ true) × (is_same_slot (Unnamed tr) (Unnamed tr) ≡ true) × (is_same_place here (Unnamed tr) here (Unnamed tr) ≡ true)
same_slots = (refl, refl, refl)

other_slots : (is_same_slot (Named name Types) (Named name Values) ≡ false) × (is_same_slot (Named name Types) (Named (record { 0 = 5 }) Types) ≡ false) × (is_same_slot (Unnamed tr) (Named (record { 0 = 5 }) Types) ≡ false) × (is_same_place here (Unnamed tr) there (Unnamed tr) ≡ false)
other_slots = (refl, refl, refl, refl)

abbrev edge : Bool → EdgeTo Bool
edge v = record { importer = there; vis = v; glob = record { use_id = record { 0 = 7 }; idx = 0 } }

-- a copy takes the edge's glob and the lesser visibility
copy_is_by_the_glob : held (copied levels here (edge low) (Named name Types) (with_binding empty here name Types (bind one high None))) there (Named name Types) ≡ Some (bind one low (glob 7))
copy_is_by_the_glob = refl

-- what the importer does not see is not copied
copy_of_unseen : held (copied levels here (edge high) (Named name Types) (with_binding empty here name Types (bind one low None))) there (Named name Types) ≡ None
copy_of_unseen = refl

-- an edge beside one that is there keeps the first glob and takes the greater visibility
edge_raised : joined levels (edge_to (edge low ∷ []) there) (record { importer = there; vis = high; glob = record { use_id = record { 0 = 8 }; idx = 0 } }) ≡ edge high
edge_raised = refl
