-- Equal locations have equal ids, in a session whose tables are injective.
use Rattle.std.specs.Prelude.{◌≡◌, ℕ, List, Option, Some, None, option_map, slice_get}
use Rattle.std.proofs.Common.{ap, refl, sym, ◌∙◌, rules}
use Rattle.item_tree.specs.Numbering as numbering
use Rattle.def_interner.specs.MacroKinds.{kind_of_expander}
use Rattle.def_interner.specs.Session.{IsInjective, session_of, shown_item, shown_macro, ItemKind, ItemLoc, MacroLoc, rules_loc, macro2_loc, proc_macro_loc}
use Rattle.def_interner.specs.Session.{FunctionItem, StructItem, UnionItem, EnumItem, ConstItem, StaticItem}
use Rattle.def_interner.specs.Session.{TraitItem, TypeAliasItem, ImplItem, UseItem, ExternCrateItem, ExternBlockItem}
use Rattle.def_ids.specs.declared.ids.Macro2Id.{Macro2Id}
use Rattle.def_ids.specs.declared.ids.MacroId.TheVariants.{MacroRules, Macro2, ProcMacro}
use Rattle.def_ids.specs.declared.ids.MacroRulesId.{MacroRulesId}
use Rattle.def_ids.specs.declared.ids.ProcMacroId.{ProcMacroId}
use Rattle.def_interner.specs.declared.interner.Interner.{Interner}
use Rattle.def_ids.specs.declared.locs.Macro2Loc.{Macro2Loc}
use Rattle.def_ids.specs.declared.locs.MacroRulesLoc.{MacroRulesLoc}
use Rattle.def_ids.specs.declared.locs.ProcMacroLoc.{ProcMacroLoc}
use Rattle.def_ids.specs.declared.expander.MacroExpander.{MacroExpander}
use Rattle.def_ids.specs.declared.expander.MacroExpander.TheVariants as expander

-- each table has each location once
pub record AreInjective (s : Interner) : Type 0 where
  pub functions : numbering.IsInjective s.functions
  pub structs : numbering.IsInjective s.structs
  pub unions : numbering.IsInjective s.unions
  pub enums : numbering.IsInjective s.enums
  pub consts : numbering.IsInjective s.consts
  pub statics : numbering.IsInjective s.statics
  pub traits : numbering.IsInjective s.traits
  pub type_aliases : numbering.IsInjective s.type_aliases
  pub impls : numbering.IsInjective s.impls
  pub uses : numbering.IsInjective s.uses
  pub extern_crates : numbering.IsInjective s.extern_crates
  pub extern_blocks : numbering.IsInjective s.extern_blocks
  pub macro_rules : numbering.IsInjective s.macro_rules
  pub macro2s : numbering.IsInjective s.macro2s
  pub proc_macros : numbering.IsInjective s.proc_macros
  pub builtin_derive_impls : numbering.IsInjective s.builtin_derive_impls

-- a value that is shown at a place stands there
at_place : {A B : Type 0} (shown : A → B) (o : Option A) (b : B) → option_map shown o ≡ Some b → (a : A) × (o ≡ Some a) × (shown a ≡ b)
at_place shown None b at = cc
at_place shown (Some a) b at = (a, refl, cc)

-- what is shown twice is one value, where each value is shown as itself alone
shown_injective : {A B : Type 0} (shown : A → B) (xs : List A) → ((a b : A) → shown a ≡ shown b → a ≡ b) → numbering.IsInjective xs → (i j : ℕ) (b : B) → option_map shown (slice_get xs i) ≡ Some b → option_map shown (slice_get xs j) ≡ Some b → i ≡ j
shown_injective shown xs apart injective i j b at_i at_j =
    let first = at_place shown (slice_get xs i) b at_i in
    let second = at_place shown (slice_get xs j) b at_j in
    let same = apart first.0 second.0 (first.2 ∙ sym second.2) in
    injective i j first.0 first.1 (second.1 ∙ ap Some (sym same))

item_injective : (s : Interner) → AreInjective s → (k : ItemKind) (i j : ℕ) (loc : ItemLoc) → shown_item s k i ≡ Some loc → shown_item s k j ≡ Some loc → i ≡ j
unfolding shown_item
item_injective s tables FunctionItem i j loc = shown_injective _ s.functions (λ a b same. search rules) tables.functions i j loc
item_injective s tables StructItem i j loc = shown_injective _ s.structs (λ a b same. search rules) tables.structs i j loc
item_injective s tables UnionItem i j loc = shown_injective _ s.unions (λ a b same. search rules) tables.unions i j loc
item_injective s tables EnumItem i j loc = shown_injective _ s.enums (λ a b same. search rules) tables.enums i j loc
item_injective s tables ConstItem i j loc = shown_injective _ s.consts (λ a b same. search rules) tables.consts i j loc
item_injective s tables StaticItem i j loc = shown_injective _ s.statics (λ a b same. search rules) tables.statics i j loc
item_injective s tables TraitItem i j loc = shown_injective _ s.traits (λ a b same. search rules) tables.traits i j loc
item_injective s tables TypeAliasItem i j loc = shown_injective _ s.type_aliases (λ a b same. search rules) tables.type_aliases i j loc
item_injective s tables ImplItem i j loc = shown_injective _ s.impls (λ a b same. search rules) tables.impls i j loc
item_injective s tables UseItem i j loc = shown_injective _ s.uses (λ a b same. search rules) tables.uses i j loc
item_injective s tables ExternCrateItem i j loc = shown_injective _ s.extern_crates (λ a b same. search rules) tables.extern_crates i j loc
item_injective s tables ExternBlockItem i j loc = shown_injective _ s.extern_blocks (λ a b same. search rules) tables.extern_blocks i j loc

-- an expander is shown as itself alone
expander_apart : (a b : MacroExpander) → kind_of_expander a ≡ kind_of_expander b → a ≡ b
expander_apart (expander.Declarative x) (expander.Declarative y) same = search rules
expander_apart (expander.BuiltIn x) (expander.BuiltIn y) same = search rules
expander_apart (expander.BuiltInEager x) (expander.BuiltInEager y) same = search rules
expander_apart (expander.BuiltInAttr x) (expander.BuiltInAttr y) same = search rules
expander_apart (expander.BuiltInDerive x) (expander.BuiltInDerive y) same = search rules
expander_apart expander.UnimplementedBuiltIn expander.UnimplementedBuiltIn same = refl
expander_apart _ _ same = cc

-- so is a `macro_rules` macro
rules_apart : (a b : MacroRulesLoc) → rules_loc a ≡ rules_loc b → a ≡ b
rules_apart a b same =
    let of_kind = expander_apart a.expander b.expander (ap (λ loc. loc.kind) same) in
    λ i. record { container = (same i).container; position = (same i).position; expander = of_kind i; flags = (same i).flags; edition = (same i).edition }

-- so is a `macro` item
macro2_apart : (a b : Macro2Loc) → macro2_loc a ≡ macro2_loc b → a ≡ b
macro2_apart a b same =
    let of_kind = expander_apart a.expander b.expander (ap (λ loc. loc.kind) same) in
    λ i. record { container = (same i).container; position = (same i).position; expander = of_kind i; flags = (same i).flags; edition = (same i).edition }

-- so is a procedural macro
proc_macro_apart : (a b : ProcMacroLoc) → proc_macro_loc a ≡ proc_macro_loc b → a ≡ b
proc_macro_apart a b same = search rules

macro_rules_injective : (s : Interner) → AreInjective s → (a b : MacroRulesId) (loc : MacroLoc) → shown_macro s (MacroRules a) ≡ Some loc → shown_macro s (MacroRules b) ≡ Some loc → a ≡ b
unfolding shown_macro
macro_rules_injective s tables a b loc at_a at_b = ap (λ n. record { 0 = n }) (shown_injective rules_loc s.macro_rules rules_apart tables.macro_rules a.0 b.0 loc at_a at_b)

macro2_injective : (s : Interner) → AreInjective s → (a b : Macro2Id) (loc : MacroLoc) → shown_macro s (Macro2 a) ≡ Some loc → shown_macro s (Macro2 b) ≡ Some loc → a ≡ b
unfolding shown_macro
macro2_injective s tables a b loc at_a at_b = ap (λ n. record { 0 = n }) (shown_injective macro2_loc s.macro2s macro2_apart tables.macro2s a.0 b.0 loc at_a at_b)

proc_macro_injective : (s : Interner) → AreInjective s → (a b : ProcMacroId) (loc : MacroLoc) → shown_macro s (ProcMacro a) ≡ Some loc → shown_macro s (ProcMacro b) ≡ Some loc → a ≡ b
unfolding shown_macro
proc_macro_injective s tables a b loc at_a at_b = ap (λ n. record { 0 = n }) (shown_injective proc_macro_loc s.proc_macros proc_macro_apart tables.proc_macros a.0 b.0 loc at_a at_b)

-- a session shows each location once
pub injective_from_tables : (s : Interner) → AreInjective s → IsInjective (session_of s)
injective_from_tables s tables =
    record {
      item = item_injective s tables;
      macro_rules = macro_rules_injective s tables;
      macro2 = macro2_injective s tables;
      proc_macro = proc_macro_injective s tables;
      derive_impl = tables.builtin_derive_impls;
    }
