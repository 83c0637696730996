-- Paths of a block with maps around it, as they compute: macros, an enum, another crate and a prelude.
use Rattle.std.proofs.Common.{◌≡◌, refl, ℕ, true, false, ◌==◌, ◌&&◌, ◌||◌, List, [], ◌∷◌, Option, Some, None, if◌then◌else◌}
use Rattle.tree_ids.specs.declared.ids.FileAstId.{FileAstId}
use Rattle.tree_ids.specs.declared.ids.HirFileId.TheVariants.{File}
use Rattle.tree_ids.specs.declared.ids.InFile.{InFile}
use Rattle.item_tree.specs.declared.mod_path.PathKind.TheVariants.{Plain, Super, Crate, Abs, DollarCrate}
use Rattle.tree_ids.specs.declared.name.Name.{Name}
use Rattle.def_ids.specs.declared.ids.Def.TheVariants as def
use Rattle.def_ids.specs.declared.ids.MacroId.{MacroId}
use Rattle.def_ids.specs.declared.ids.MacroId.TheVariants.{MacroRules, Macro2, ProcMacro}
use Rattle.def_ids.specs.declared.ids.MapId.{MapId}
use Rattle.def_ids.specs.declared.ids.ModuleId.{ModuleId}
use Rattle.def_ids.specs.declared.expander.BuiltinAttr.TheVariants.{Test}
use Rattle.def_ids.specs.declared.edition.Edition.TheVariants.{Edition2021}
use Rattle.def_interner.specs.declared.macro_def.MacroDefKind.{MacroDefKind}
use Rattle.def_interner.specs.declared.macro_def.MacroDefKind.TheVariants.{BuiltIn, BuiltInAttr, BuiltInDerive}
use Rattle.def_ids.specs.Ids.{is_same_module}
use Rattle.def_interner.specs.Session.{ItemKind, EnumItem, ItemLoc, MacroLoc, in_module}
use Rattle.def_bindings.specs.Content.{is_namespace}
use Rattle.def_bindings.specs.declared.bindings.ImportOrExternCrate.TheVariants.{ExternCrate}
use Rattle.def_bindings.specs.declared.bindings.Namespace.{Namespace}
use Rattle.def_bindings.specs.declared.bindings.Namespace.TheVariants.{Types, Values, Macros}
use Rattle.def_bindings.specs.declared.visibility.Visibility.TheVariants.{Public}
use Rattle.def_modules.specs.MapView.{MapView}
use Rattle.def_sources.specs.declared.asked.BuiltinShadowMode.TheVariants as shadow
use Rattle.def_sources.specs.declared.per_ns.MacroSubNs.TheVariants.{Bang, Attr}
use Rattle.def_oracle.specs.declared.source_database.EnumVariant.{EnumVariant}
use Rattle.def_paths.specs.Answers.{missing, reached, leading}
use Rattle.def_sources.specs.Items.{public_item, module_item, is_of_kind}
use Rattle.def_paths.specs.OuterMaps.{first_of_each_map, answers_outside}
use Rattle.def_paths.specs.Paths.{World, question, for_macro, for_module, resolve, resolver}
use Rattle.def_sources.specs.PerNs.{Item, in_types, nothing}
use Rattle.def_paths.proofs.PathsFacts.{oracle_with, in_crate, in_block, elsewhere, a_struct, path, name}

-- modules of the block in which block 0 stands
abbrev in_outer : ℕ → ModuleId
in_outer i = record { map = record { krate = record { 0 = 0 }; block = Some (record { 0 = 1 }) }; index = i }

abbrev a_function : ℕ → Item
a_function i = public_item (def.Function (record { 0 = i }))

abbrev rules : ℕ → MacroId
rules i = MacroRules (record { 0 = i })

abbrev a_macro : ℕ → Item
a_macro i = public_item (def.Macro (rules i))

-- the items of names in namespaces
abbrev bound_by : List (ModuleId × ℕ × Namespace × Item) → ModuleId → Name → Namespace → Option Item
bound_by [] m name ns = None
bound_by ((at, x, within, item) ∷ rest) m name ns =
    if is_same_module at m && ((x == name.0) && is_namespace within ns) then Some item else bound_by rest m name ns

-- a map of these bindings, within these modules
abbrev map_within : MapId → List ModuleId → List (ModuleId × ℕ × Namespace × Item) → MapView
map_within id containing entries = record {
  facts = record {
    id = id;
    edition = Edition2021;
    chain = λ m. m ∷ containing;
    containing = containing;
    prelude = None;
    textual_macro = λ _ _. None;
    macro_use = λ _. None;
    exported_helpers = λ _. None;
  };
  content = record { binding = bound_by entries; names = λ _. []; unnamed = λ _. []; edges = λ _. [] };
}

-- the other crate: name 2 in types, and name 1 in each namespace
abbrev other_crate : MapView
other_crate = map_within elsewhere.map []
    ((elsewhere, 2, Types, a_struct 7) ∷ (elsewhere, 1, Types, a_struct 8) ∷ (elsewhere, 1, Values, a_function 8) ∷ (elsewhere, 1, Macros, a_macro 1) ∷ [])

-- the block's crate: enum 30 in the root, name 0 in module 4, and there name 6 for a module in which 5 is a value
abbrev own_crate : MapView
own_crate = map_within (in_crate 0).map []
    ((in_crate 0, 30, Types, public_item (def.Enum (record { 0 = 0 }))) ∷ (in_crate 4, 0, Types, a_struct 9) ∷ (in_crate 4, 0, Values, a_function 1)
    ∷ (in_crate 4, 6, Types, module_item (in_crate 2)) ∷ (in_crate 2, 5, Values, a_function 5) ∷ [])

-- the outer block: names 0 and 6 in module 3, and name 7 in the root
abbrev outer_bindings : MapView
outer_bindings = map_within (in_outer 0).map (in_crate 4 ∷ [])
    ((in_outer 3, 0, Types, a_struct 0) ∷ (in_outer 3, 6, Types, a_struct 1) ∷ (in_outer 0, 7, Types, a_struct 2) ∷ [])

-- and the textual macro 60 in module 3
abbrev outer_block : MapView
outer_block = record outer_bindings {
  facts = record outer_bindings.facts { textual_macro = λ m name. if is_same_module m (in_outer 3) && (name.0 == 60) then Some (rules 0) else None };
}

abbrev around : List ModuleId
around = in_outer 3 ∷ in_outer 0 ∷ in_crate 4 ∷ []

-- the block: in module 1 the attribute 40, a macro 41 that nothing is known of, a value 1, and module 2 as 50, where 40 is the attribute too
abbrev block_bindings : MapView
block_bindings = map_within (in_block 0).map around
    ((in_block 1, 40, Macros, a_macro 1) ∷ (in_block 1, 41, Macros, a_macro 5) ∷ (in_block 1, 50, Types, module_item (in_block 2))
    ∷ (in_block 2, 40, Macros, a_macro 1) ∷ (in_block 1, 1, Values, a_function 9) ∷ [])

-- with a textual macro 40 in module 1, the macros 1 and 41 of extern crates, and the other crate's root as its prelude
abbrev block_map : MapView
block_map = record block_bindings {
  facts = record block_bindings.facts {
    prelude = Some elsewhere;
    textual_macro = λ m name. if is_same_module m (in_block 1) && (name.0 == 40) then Some (rules 0) else None;
    macro_use = λ name. if (name.0 == 1) || (name.0 == 41) then Some (rules 0) else None;
  };
}

-- the enum is item 7 of file 0
abbrev position : InFile FileAstId
position = record { file = File (record { 0 = 0 }); value = record { 0 = 7 } }

abbrev enum_at : ItemKind → ℕ → Option ItemLoc
enum_at EnumItem i = if i == 0 then Some (in_module (in_crate 0) position) else None
enum_at _ i = None

-- its variants: one with a constructor, and one without
abbrev variants : List EnumVariant
variants = record { name = name 31; id = record { 0 = 0 }; value_ctor = true } ∷ record { name = name 32; id = record { 0 = 1 }; value_ctor = false } ∷ []

abbrev a_variant : ℕ → Item
a_variant i = public_item (def.Variant (record { 0 = i }))

abbrev macro_loc : MacroDefKind → MacroLoc
macro_loc kind = record { container = in_crate 0; position = position; kind = kind; flags = record { 0 = 0 }; edition = Edition2021 }

-- a macro that is called, an attribute, and no other
abbrev macro_at : MacroId → Option MacroLoc
macro_at (MacroRules id) =
    if id.0 == 0 then Some (macro_loc (BuiltIn 0)) else if id.0 == 1 then Some (macro_loc (BuiltInAttr Test)) else None
macro_at (Macro2 id) = None
macro_at (ProcMacro id) = None

-- the world of the block, where `extern crate` 3 brought the other crate as name 1
abbrev world : World
world = record {
  oracle = record (oracle_with other_crate) {
    crate_def_map = λ krate. Some (if krate.0 == 0 then own_crate else other_crate);
    outer_map = λ block. if block.0 == 1 then Some outer_block else None;
    enum_variants = λ loc. if loc.position.value.0 == 7 then Some variants else None;
  };
  session = record { text = λ _. None; item = enum_at; macro_at = macro_at; derive_impl = λ _. None };
  map = block_map;
  local = record { extern_prelude = λ name. if name.0 == 1 then Some (record { root = elsewhere; by = Some (record { 0 = 3 }) }) else None };
}

-- each map around is asked once, from the module nearest to the block
pub asked_once : first_of_each_map [] around ≡ in_outer 3 ∷ in_crate 4 ∷ []
asked_once = refl

pub answers_in_order : answers_outside (question world for_module) (path Plain (name 0 ∷ [])) [] around
    ≡ reached (in_types (a_struct 0)) None false ∷ reached (record { types = Some (a_struct 9); values = Some (a_function 1); macros = None }) None false ∷ []
answers_in_order = refl

pub not_from_the_root : resolve world for_module (in_block 0) (path Plain (name 7 ∷ [])) ≡ missing false
not_from_the_root = refl

-- in each namespace the nearest map's answer counts, and only a block's root asks them
pub joined_by_namespace : resolve world for_module (in_block 0) (path Plain (name 0 ∷ [])) ≡ reached (record { types = Some (a_struct 0); values = Some (a_function 1); macros = None }) None false
joined_by_namespace = refl

pub no_root_of_a_block : resolve world for_module (in_block 1) (path Plain (name 0 ∷ [])) ≡ missing false
no_root_of_a_block = refl

-- the first answer that is not empty says which segment is left and whether another crate was entered
pub first_leads : resolve world for_module (in_block 0) (path Plain (name 6 ∷ name 5 ∷ [])) ≡ reached (record { types = Some (a_struct 1); values = Some (a_function 5); macros = None }) (Some 1) false
first_leads = refl

pub first_crosses : resolve world for_module (in_block 0) (path Plain (name 1 ∷ name 2 ∷ [])) ≡ reached (in_types (a_struct 7)) None true
first_crosses = refl

-- and where all are empty, the first does
pub empty_leads : leading (missing true) (reached nothing None false ∷ []) ≡ missing true
empty_leads = refl

-- a variant is a type, and a value where it has a constructor; an enum without the variant is where the path ends
pub with_constructor : resolve world for_module (in_block 1) (path Crate (name 30 ∷ name 31 ∷ [])) ≡ reached (record { types = Some (a_variant 0); values = Some (a_variant 0); macros = None }) None false
with_constructor = refl

pub without_constructor : resolve world for_module (in_block 1) (path Crate (name 30 ∷ name 32 ∷ [])) ≡ reached (in_types (a_variant 1)) None false
without_constructor = refl

pub no_variant : resolve world for_module (in_block 1) (path Crate (name 30 ∷ name 33 ∷ [])) ≡ reached (in_types (public_item (def.Enum (record { 0 = 0 })))) (Some 1) false
no_variant = refl

-- a textual macro goes before the scope, unless an attribute is asked for and it is none
pub textual_first : resolve world for_module (in_block 1) (path Plain (name 40 ∷ [])) ≡ reached (record nothing { macros = Some (a_macro 0) }) None false
textual_first = refl

-- of a module of another map it is read there
pub textual_elsewhere : resolve world for_module (in_outer 3) (path Plain (name 60 ∷ [])) ≡ reached (record nothing { macros = Some (a_macro 0) }) None false
textual_elsewhere = refl

pub unfit_hides_nothing : resolve world (for_macro shadow.Module Attr) (in_block 1) (path Plain (name 40 ∷ [])) ≡ reached (record nothing { macros = Some (a_macro 1) }) None false
unfit_hides_nothing = refl

pub resolved_attribute : resolver world shadow.Module Attr (in_block 1) (path Plain (name 40 ∷ [])) ≡ Some (record { krate = record { 0 = 0 }; id = rules 1; kind = BuiltInAttr Test })
resolved_attribute = refl

-- a macro that the session does not know is found, but fits nothing, and then the one of an extern crate answers
pub unknown_macro : resolve world for_module (in_block 1) (path Plain (name 41 ∷ [])) ≡ reached (record nothing { macros = Some (a_macro 5) }) None false
unknown_macro = refl

pub unknown_hides_nothing : resolve world (for_macro shadow.Module Bang) (in_block 1) (path Plain (name 41 ∷ [])) ≡ reached (record nothing { macros = Some (a_macro 0) }) None false
unknown_hides_nothing = refl

-- at the end of a longer path every macro counts
pub long_path : resolve world (for_macro shadow.Module Bang) (in_block 1) (path Plain (name 50 ∷ name 40 ∷ [])) ≡ reached (record nothing { macros = Some (a_macro 1) }) None false
long_path = refl

-- a derive is asked for as an attribute is
pub derive_as_attribute : (is_of_kind Attr (BuiltInDerive 0) ≡ true) × (is_of_kind Bang (BuiltInDerive 0) ≡ false)
derive_as_attribute = (refl, refl)

-- another crate's root, by the item that brought it
abbrev brought_crate : Item
brought_crate = record { def = def.Module elsewhere; vis = Public; import = Some (ExternCrate (record { 0 = 3 })) }

pub crate_with_origin : resolve world for_module (in_block 1) (path Abs (name 1 ∷ [])) ≡ reached (in_types brought_crate) None false
crate_with_origin = refl

-- the prelude is last: of the name it gives the value alone, behind the other crate and its macro
pub prelude_last : resolve world for_module (in_block 2) (path Plain (name 1 ∷ [])) ≡ reached (record { types = Some brought_crate; values = Some (a_function 8); macros = Some (a_macro 0) }) None false
prelude_last = refl

-- where the extern crate's macro does not fit, the prelude's answers; what is no macro always fits
pub attribute_of_prelude : resolve world (for_macro shadow.Module Attr) (in_block 2) (path Plain (name 1 ∷ [])) ≡ reached (record { types = Some brought_crate; values = Some (a_function 8); macros = Some (a_macro 1) }) None false
attribute_of_prelude = refl

-- a longer path goes on from what its first segment means in types, whatever the scope binds in values
pub value_before_prefix : resolve world for_module (in_block 1) (path Plain (name 1 ∷ name 2 ∷ [])) ≡ reached (in_types (a_struct 7)) None true
value_before_prefix = refl

-- `$crate` is the root of its crate
pub dollar_crate : resolve world for_module (in_block 1) (path (DollarCrate (record { 0 = 1 })) (name 2 ∷ [])) ≡ reached (in_types (a_struct 7)) None true
dollar_crate = refl

-- `self` and `super` pass over the roots of blocks
pub self_in_block : resolve world for_module (in_block 0) (path (Super 0) []) ≡ reached (in_types (module_item (in_outer 3))) None false
self_in_block = refl

pub parent_of_block : resolve world for_module (in_block 0) (path (Super 1) []) ≡ reached (in_types (module_item (in_crate 4))) None false
parent_of_block = refl
