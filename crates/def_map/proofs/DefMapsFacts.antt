-- Worked rows of the maps that are seeded and of what a module's scope lists.
use Rattle.std.proofs.Common.{◌≡◌, ℕ, [], ◌∷◌, Some, None, refl}
use Rattle.def_ids.specs.declared.ids.Def.TheVariants.{Builtin}
use Rattle.def_ids.specs.declared.ids.ModuleId.{ModuleId}
use Rattle.def_ids.specs.declared.edition.Edition.TheVariants.{Edition2015}
use Rattle.def_bindings.specs.Content.{Content, empty, with_binding, with_unnamed}
use Rattle.def_bindings.specs.declared.bindings.Namespace.TheVariants.{Macros, Types, Values}
use Rattle.def_bindings.specs.declared.visibility.Visibility.{Visibility}
use Rattle.def_bindings.specs.declared.visibility.Visibility.TheVariants.{Public, PubCrate}
use Rattle.def_map.specs.declared.block.BlockInfo.{BlockInfo}
use Rattle.def_map.specs.DefMaps.{seeded}
use Rattle.def_modules.specs.Fresh.{known_tools}
use Rattle.def_sources.specs.Items.{public_item}
use Rattle.def_map.specs.ItemScopes.{bound_from, entries_at, names_of, resolutions_from, unnamed_from}
use Rattle.def_sources.specs.PerNs.{Item, in_types}

-- a crate's map stands in no module, and knows the tools that need no declaration
seeded_crate : ((seeded (record { 0 = 1 }) Edition2015 None).id ≡ record { krate = record { 0 = 1 }; block = None }) × ((seeded (record { 0 = 1 }) Edition2015 None).containing ≡ [])
    × ((seeded (record { 0 = 1 }) Edition2015 None).krate.tools ≡ known_tools)
seeded_crate = (refl, refl, refl)

-- a block's map is of the block's crate, whichever crate is named, and stands in the block's modules
seeded_block : (b : BlockInfo) → ((seeded (record { 0 = 1 }) Edition2015 (Some b)).id ≡ record { krate = b.data.krate; block = Some b.data.block }) × ((seeded (record { 0 = 1 }) Edition2015 (Some b)).containing ≡ b.data.containing)
seeded_block b = (refl, refl)

abbrev root : ModuleId
root = record { map = record { krate = record { 0 = 0 }; block = None }; index = 0 }

abbrev a_type : ℕ → Item
a_type n = public_item (Builtin n)

-- name 5 in types, name 6 in types and values, and the traits 1 and 2 without names
abbrev listed : Content Visibility
listed =
    let named = with_binding (with_binding (with_binding empty root (record { 0 = 5 }) Types (a_type 1)) root (record { 0 = 6 }) Types (a_type 2)) root (record { 0 = 6 }) Values (a_type 3) in
    with_unnamed (with_unnamed named root (record { 0 = 1 }) Public) root (record { 0 = 2 }) PubCrate

-- names stand in first-bound order, each once with all that it means
all_names : resolutions_from 0 listed root ≡ (record { 0 = 5 }, in_types (a_type 1)) ∷ (record { 0 = 6 }, record { types = Some (a_type 2); values = Some (a_type 3); macros = None }) ∷ []
all_names = refl

later_names : resolutions_from 1 listed root ≡ (record { 0 = 6 }, record { types = Some (a_type 2); values = Some (a_type 3); macros = None }) ∷ []
later_names = refl

no_more_names : resolutions_from 2 listed root ≡ []
no_more_names = refl

-- unnamed traits stand in order, each with its visibility
all_traits : unnamed_from 0 listed root ≡ (record { 0 = 1 }, Public) ∷ (record { 0 = 2 }, PubCrate) ∷ []
all_traits = refl

later_traits : unnamed_from 1 listed root ≡ (record { 0 = 2 }, PubCrate) ∷ []
later_traits = refl

no_more_traits : unnamed_from 2 listed root ≡ []
no_more_traits = refl

-- bindings by namespace, in the order of the names
in_types_alone : bound_from 0 Types listed root ≡ (record { 0 = 5 }, a_type 1) ∷ (record { 0 = 6 }, a_type 2) ∷ []
in_types_alone = refl

in_values_alone : bound_from 0 Values listed root ≡ (record { 0 = 6 }, a_type 3) ∷ []
in_values_alone = refl

no_macros : bound_from 0 Macros listed root ≡ []
no_macros = refl

-- each binding by itself, a name's types before its values
all_entries : entries_at listed root ≡ record { name = record { 0 = 5 }; ns = Types; item = a_type 1 } ∷ record { name = record { 0 = 6 }; ns = Types; item = a_type 2 } ∷ record { name = record { 0 = 6 }; ns = Values; item = a_type 3 } ∷ []
all_entries = refl

-- a definition by its names
one_name : names_of (Builtin 3) (entries_at listed root) ≡ (record { 0 = 6 }, Values) ∷ []
one_name = refl

no_name : names_of (Builtin 4) (entries_at listed root) ≡ []
no_name = refl
