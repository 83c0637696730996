-- A session of which one table has grown has grown.
use Rattle.std.specs.Prelude.{◌≡◌, ℕ, List, Some, None, option_map, slice_get, [], ◌∷◌, ◌++◌}
use Rattle.std.proofs.Common.{ap, refl, ◌∙◌, inl, inr, zero, suc}
use Rattle.item_tree.specs.Numbering.{Keeps, IsGrownBy}
use Rattle.def_interner.specs.Session.{Grows, session_of, shown_item, shown_macro, ItemKind, ItemLoc, MacroLoc}
use Rattle.def_interner.specs.Session.{FunctionItem, StructItem, UnionItem, EnumItem, ConstItem, StaticItem}
use Rattle.def_interner.specs.Session.{TraitItem, TypeAliasItem, ImplItem, UseItem, ExternCrateItem, ExternBlockItem}
use Rattle.def_ids.specs.declared.ids.MacroId.{MacroId}
use Rattle.def_ids.specs.declared.ids.MacroId.TheVariants.{MacroRules, Macro2, ProcMacro}
use Rattle.def_interner.specs.declared.interner.Interner.{Interner}
use Rattle.def_ids.specs.declared.locs.BuiltinDeriveImplLoc.{BuiltinDeriveImplLoc}
use Rattle.def_ids.specs.declared.locs.ConstLoc.{ConstLoc}
use Rattle.def_ids.specs.declared.locs.EnumLoc.{EnumLoc}
use Rattle.def_ids.specs.declared.locs.ExternBlockLoc.{ExternBlockLoc}
use Rattle.def_ids.specs.declared.locs.ExternCrateLoc.{ExternCrateLoc}
use Rattle.def_ids.specs.declared.locs.FunctionLoc.{FunctionLoc}
use Rattle.def_ids.specs.declared.locs.ImplLoc.{ImplLoc}
use Rattle.def_ids.specs.declared.locs.Macro2Loc.{Macro2Loc}
use Rattle.def_ids.specs.declared.locs.MacroRulesLoc.{MacroRulesLoc}
use Rattle.def_ids.specs.declared.locs.ProcMacroLoc.{ProcMacroLoc}
use Rattle.def_ids.specs.declared.locs.StaticLoc.{StaticLoc}
use Rattle.def_ids.specs.declared.locs.StructLoc.{StructLoc}
use Rattle.def_ids.specs.declared.locs.TraitLoc.{TraitLoc}
use Rattle.def_ids.specs.declared.locs.TypeAliasLoc.{TypeAliasLoc}
use Rattle.def_ids.specs.declared.locs.UnionLoc.{UnionLoc}
use Rattle.def_ids.specs.declared.locs.UseLoc.{UseLoc}

-- an append keeps the places
keeps_append : {A : Type 0} (xs ys : List A) → Keeps xs (xs ++ ys)
keeps_append [] ys i x at = cc
keeps_append (z ∷ zs) ys zero x at = at
keeps_append (z ∷ zs) ys (suc i) x at = keeps_append zs ys i x at

-- a list that grew keeps its places
keeps_from_grown : {A : Type 0} (x : A) (old new : List A) → IsGrownBy x old new → Keeps old new
keeps_from_grown x old new (inl same) i y at = ap (λ l. slice_get l i) same ∙ at
keeps_from_grown x old new (inr more) i y at = ap (λ l. slice_get l i) more ∙ keeps_append old (x ∷ []) i y at

-- what is shown of a place of a list is shown of it once the list grew
shown_keeps : {A B : Type 0} (shown : A → B) (x : A) (old new : List A) → IsGrownBy x old new → (i : ℕ) (b : B) → option_map shown (slice_get old i) ≡ Some b → option_map shown (slice_get new i) ≡ Some b
shown_keeps {A} {B} shown x old new grown i b at =
    elim (slice_get old i) as (λ o. slice_get old i ≡ o → option_map shown o ≡ Some b → option_map shown (slice_get new i) ≡ Some b)
    [ None ↦ λ is none. cc | Some a ↦ λ is some. ap (option_map shown) (keeps_from_grown x old new grown i a is) ∙ some ] refl at

item_of_functions : (s : Interner) (x : FunctionLoc) (xs : List FunctionLoc) → IsGrownBy x s.functions xs → (k : ItemKind) (i : ℕ) (loc : ItemLoc) → shown_item s k i ≡ Some loc → shown_item (record s { functions = xs }) k i ≡ Some loc
unfolding shown_item
item_of_functions s x xs grown FunctionItem i loc at = shown_keeps _ x s.functions xs grown i loc at
item_of_functions s x xs grown _ i loc at = at

pub grows_functions : (s : Interner) (x : FunctionLoc) (xs : List FunctionLoc) → IsGrownBy x s.functions xs → Grows (session_of s) (session_of (record s { functions = xs }))
unfolding shown_macro
grows_functions s x xs grown = record { text = λ n t at. at; item = item_of_functions s x xs grown; macro_at = λ m loc at. at; derive_impl = λ i loc at. at }

item_of_structs : (s : Interner) (x : StructLoc) (xs : List StructLoc) → IsGrownBy x s.structs xs → (k : ItemKind) (i : ℕ) (loc : ItemLoc) → shown_item s k i ≡ Some loc → shown_item (record s { structs = xs }) k i ≡ Some loc
unfolding shown_item
item_of_structs s x xs grown StructItem i loc at = shown_keeps _ x s.structs xs grown i loc at
item_of_structs s x xs grown _ i loc at = at

pub grows_structs : (s : Interner) (x : StructLoc) (xs : List StructLoc) → IsGrownBy x s.structs xs → Grows (session_of s) (session_of (record s { structs = xs }))
unfolding shown_macro
grows_structs s x xs grown = record { text = λ n t at. at; item = item_of_structs s x xs grown; macro_at = λ m loc at. at; derive_impl = λ i loc at. at }

item_of_unions : (s : Interner) (x : UnionLoc) (xs : List UnionLoc) → IsGrownBy x s.unions xs → (k : ItemKind) (i : ℕ) (loc : ItemLoc) → shown_item s k i ≡ Some loc → shown_item (record s { unions = xs }) k i ≡ Some loc
unfolding shown_item
item_of_unions s x xs grown UnionItem i loc at = shown_keeps _ x s.unions xs grown i loc at
item_of_unions s x xs grown _ i loc at = at

pub grows_unions : (s : Interner) (x : UnionLoc) (xs : List UnionLoc) → IsGrownBy x s.unions xs → Grows (session_of s) (session_of (record s { unions = xs }))
unfolding shown_macro
grows_unions s x xs grown = record { text = λ n t at. at; item = item_of_unions s x xs grown; macro_at = λ m loc at. at; derive_impl = λ i loc at. at }

item_of_enums : (s : Interner) (x : EnumLoc) (xs : List EnumLoc) → IsGrownBy x s.enums xs → (k : ItemKind) (i : ℕ) (loc : ItemLoc) → shown_item s k i ≡ Some loc → shown_item (record s { enums = xs }) k i ≡ Some loc
unfolding shown_item
item_of_enums s x xs grown EnumItem i loc at = shown_keeps _ x s.enums xs grown i loc at
item_of_enums s x xs grown _ i loc at = at

pub grows_enums : (s : Interner) (x : EnumLoc) (xs : List EnumLoc) → IsGrownBy x s.enums xs → Grows (session_of s) (session_of (record s { enums = xs }))
unfolding shown_macro
grows_enums s x xs grown = record { text = λ n t at. at; item = item_of_enums s x xs grown; macro_at = λ m loc at. at; derive_impl = λ i loc at. at }

item_of_consts : (s : Interner) (x : ConstLoc) (xs : List ConstLoc) → IsGrownBy x s.consts xs → (k : ItemKind) (i : ℕ) (loc : ItemLoc) → shown_item s k i ≡ Some loc → shown_item (record s { consts = xs }) k i ≡ Some loc
unfolding shown_item
item_of_consts s x xs grown ConstItem i loc at = shown_keeps _ x s.consts xs grown i loc at
item_of_consts s x xs grown _ i loc at = at

pub grows_consts : (s : Interner) (x : ConstLoc) (xs : List ConstLoc) → IsGrownBy x s.consts xs → Grows (session_of s) (session_of (record s { consts = xs }))
unfolding shown_macro
grows_consts s x xs grown = record { text = λ n t at. at; item = item_of_consts s x xs grown; macro_at = λ m loc at. at; derive_impl = λ i loc at. at }

item_of_statics : (s : Interner) (x : StaticLoc) (xs : List StaticLoc) → IsGrownBy x s.statics xs → (k : ItemKind) (i : ℕ) (loc : ItemLoc) → shown_item s k i ≡ Some loc → shown_item (record s { statics = xs }) k i ≡ Some loc
unfolding shown_item
item_of_statics s x xs grown StaticItem i loc at = shown_keeps _ x s.statics xs grown i loc at
item_of_statics s x xs grown _ i loc at = at

pub grows_statics : (s : Interner) (x : StaticLoc) (xs : List StaticLoc) → IsGrownBy x s.statics xs → Grows (session_of s) (session_of (record s { statics = xs }))
unfolding shown_macro
grows_statics s x xs grown = record { text = λ n t at. at; item = item_of_statics s x xs grown; macro_at = λ m loc at. at; derive_impl = λ i loc at. at }

item_of_traits : (s : Interner) (x : TraitLoc) (xs : List TraitLoc) → IsGrownBy x s.traits xs → (k : ItemKind) (i : ℕ) (loc : ItemLoc) → shown_item s k i ≡ Some loc → shown_item (record s { traits = xs }) k i ≡ Some loc
unfolding shown_item
item_of_traits s x xs grown TraitItem i loc at = shown_keeps _ x s.traits xs grown i loc at
item_of_traits s x xs grown _ i loc at = at

pub grows_traits : (s : Interner) (x : TraitLoc) (xs : List TraitLoc) → IsGrownBy x s.traits xs → Grows (session_of s) (session_of (record s { traits = xs }))
unfolding shown_macro
grows_traits s x xs grown = record { text = λ n t at. at; item = item_of_traits s x xs grown; macro_at = λ m loc at. at; derive_impl = λ i loc at. at }

item_of_type_aliases : (s : Interner) (x : TypeAliasLoc) (xs : List TypeAliasLoc) → IsGrownBy x s.type_aliases xs → (k : ItemKind) (i : ℕ) (loc : ItemLoc) → shown_item s k i ≡ Some loc → shown_item (record s { type_aliases = xs }) k i ≡ Some loc
unfolding shown_item
item_of_type_aliases s x xs grown TypeAliasItem i loc at = shown_keeps _ x s.type_aliases xs grown i loc at
item_of_type_aliases s x xs grown _ i loc at = at

pub grows_type_aliases : (s : Interner) (x : TypeAliasLoc) (xs : List TypeAliasLoc) → IsGrownBy x s.type_aliases xs → Grows (session_of s) (session_of (record s { type_aliases = xs }))
unfolding shown_macro
grows_type_aliases s x xs grown = record { text = λ n t at. at; item = item_of_type_aliases s x xs grown; macro_at = λ m loc at. at; derive_impl = λ i loc at. at }

item_of_impls : (s : Interner) (x : ImplLoc) (xs : List ImplLoc) → IsGrownBy x s.impls xs → (k : ItemKind) (i : ℕ) (loc : ItemLoc) → shown_item s k i ≡ Some loc → shown_item (record s { impls = xs }) k i ≡ Some loc
unfolding shown_item
item_of_impls s x xs grown ImplItem i loc at = shown_keeps _ x s.impls xs grown i loc at
item_of_impls s x xs grown _ i loc at = at

pub grows_impls : (s : Interner) (x : ImplLoc) (xs : List ImplLoc) → IsGrownBy x s.impls xs → Grows (session_of s) (session_of (record s { impls = xs }))
unfolding shown_macro
grows_impls s x xs grown = record { text = λ n t at. at; item = item_of_impls s x xs grown; macro_at = λ m loc at. at; derive_impl = λ i loc at. at }

item_of_uses : (s : Interner) (x : UseLoc) (xs : List UseLoc) → IsGrownBy x s.uses xs → (k : ItemKind) (i : ℕ) (loc : ItemLoc) → shown_item s k i ≡ Some loc → shown_item (record s { uses = xs }) k i ≡ Some loc
unfolding shown_item
item_of_uses s x xs grown UseItem i loc at = shown_keeps _ x s.uses xs grown i loc at
item_of_uses s x xs grown _ i loc at = at

pub grows_uses : (s : Interner) (x : UseLoc) (xs : List UseLoc) → IsGrownBy x s.uses xs → Grows (session_of s) (session_of (record s { uses = xs }))
unfolding shown_macro
grows_uses s x xs grown = record { text = λ n t at. at; item = item_of_uses s x xs grown; macro_at = λ m loc at. at; derive_impl = λ i loc at. at }

item_of_extern_crates : (s : Interner) (x : ExternCrateLoc) (xs : List ExternCrateLoc) → IsGrownBy x s.extern_crates xs → (k : ItemKind) (i : ℕ) (loc : ItemLoc) → shown_item s k i ≡ Some loc → shown_item (record s { extern_crates = xs }) k i ≡ Some loc
unfolding shown_item
item_of_extern_crates s x xs grown ExternCrateItem i loc at = shown_keeps _ x s.extern_crates xs grown i loc at
item_of_extern_crates s x xs grown _ i loc at = at

pub grows_extern_crates : (s : Interner) (x : ExternCrateLoc) (xs : List ExternCrateLoc) → IsGrownBy x s.extern_crates xs → Grows (session_of s) (session_of (record s { extern_crates = xs }))
unfolding shown_macro
grows_extern_crates s x xs grown = record { text = λ n t at. at; item = item_of_extern_crates s x xs grown; macro_at = λ m loc at. at; derive_impl = λ i loc at. at }

item_of_extern_blocks : (s : Interner) (x : ExternBlockLoc) (xs : List ExternBlockLoc) → IsGrownBy x s.extern_blocks xs → (k : ItemKind) (i : ℕ) (loc : ItemLoc) → shown_item s k i ≡ Some loc → shown_item (record s { extern_blocks = xs }) k i ≡ Some loc
unfolding shown_item
item_of_extern_blocks s x xs grown ExternBlockItem i loc at = shown_keeps _ x s.extern_blocks xs grown i loc at
item_of_extern_blocks s x xs grown _ i loc at = at

pub grows_extern_blocks : (s : Interner) (x : ExternBlockLoc) (xs : List ExternBlockLoc) → IsGrownBy x s.extern_blocks xs → Grows (session_of s) (session_of (record s { extern_blocks = xs }))
unfolding shown_macro
grows_extern_blocks s x xs grown = record { text = λ n t at. at; item = item_of_extern_blocks s x xs grown; macro_at = λ m loc at. at; derive_impl = λ i loc at. at }

macro_of_macro_rules : (s : Interner) (x : MacroRulesLoc) (xs : List MacroRulesLoc) → IsGrownBy x s.macro_rules xs → (m : MacroId) (loc : MacroLoc) → shown_macro s m ≡ Some loc → shown_macro (record s { macro_rules = xs }) m ≡ Some loc
unfolding shown_macro
macro_of_macro_rules s x xs grown (MacroRules id) loc at = shown_keeps _ x s.macro_rules xs grown id.0 loc at
macro_of_macro_rules s x xs grown _ loc at = at

pub grows_macro_rules : (s : Interner) (x : MacroRulesLoc) (xs : List MacroRulesLoc) → IsGrownBy x s.macro_rules xs → Grows (session_of s) (session_of (record s { macro_rules = xs }))
unfolding shown_item
grows_macro_rules s x xs grown = record { text = λ n t at. at; item = λ k i loc at. at; macro_at = macro_of_macro_rules s x xs grown; derive_impl = λ i loc at. at }

macro_of_macro2s : (s : Interner) (x : Macro2Loc) (xs : List Macro2Loc) → IsGrownBy x s.macro2s xs → (m : MacroId) (loc : MacroLoc) → shown_macro s m ≡ Some loc → shown_macro (record s { macro2s = xs }) m ≡ Some loc
unfolding shown_macro
macro_of_macro2s s x xs grown (Macro2 id) loc at = shown_keeps _ x s.macro2s xs grown id.0 loc at
macro_of_macro2s s x xs grown _ loc at = at

pub grows_macro2s : (s : Interner) (x : Macro2Loc) (xs : List Macro2Loc) → IsGrownBy x s.macro2s xs → Grows (session_of s) (session_of (record s { macro2s = xs }))
unfolding shown_item
grows_macro2s s x xs grown = record { text = λ n t at. at; item = λ k i loc at. at; macro_at = macro_of_macro2s s x xs grown; derive_impl = λ i loc at. at }

macro_of_proc_macros : (s : Interner) (x : ProcMacroLoc) (xs : List ProcMacroLoc) → IsGrownBy x s.proc_macros xs → (m : MacroId) (loc : MacroLoc) → shown_macro s m ≡ Some loc → shown_macro (record s { proc_macros = xs }) m ≡ Some loc
unfolding shown_macro
macro_of_proc_macros s x xs grown (ProcMacro id) loc at = shown_keeps _ x s.proc_macros xs grown id.0 loc at
macro_of_proc_macros s x xs grown _ loc at = at

pub grows_proc_macros : (s : Interner) (x : ProcMacroLoc) (xs : List ProcMacroLoc) → IsGrownBy x s.proc_macros xs → Grows (session_of s) (session_of (record s { proc_macros = xs }))
unfolding shown_item
grows_proc_macros s x xs grown = record { text = λ n t at. at; item = λ k i loc at. at; macro_at = macro_of_proc_macros s x xs grown; derive_impl = λ i loc at. at }

pub grows_builtin_derive_impls : (s : Interner) (x : BuiltinDeriveImplLoc) (xs : List BuiltinDeriveImplLoc) → IsGrownBy x s.builtin_derive_impls xs → Grows (session_of s) (session_of (record s { builtin_derive_impls = xs }))
unfolding shown_item shown_macro
grows_builtin_derive_impls s x xs grown = record { text = λ n t at. at; item = λ k i loc at. at; macro_at = λ m loc at. at; derive_impl = keeps_from_grown x s.builtin_derive_impls xs grown }

pub grows_names : (s : Interner) (x : List ℕ) (xs : List (List ℕ)) → IsGrownBy x s.names xs → Grows (session_of s) (session_of (record s { names = xs }))
unfolding shown_item shown_macro
grows_names s x xs grown = record { text = λ n t at. keeps_from_grown x s.names xs grown n.0 t at; item = λ k i loc at. at; macro_at = λ m loc at. at; derive_impl = λ i loc at. at }

-- the growth of a table of items
pub ruleset items = (grows_functions, grows_structs, grows_unions, grows_enums, grows_consts, grows_statics, grows_traits, grows_type_aliases, grows_impls, grows_uses, grows_extern_crates, grows_extern_blocks)

-- the growth of another table
pub ruleset others = (grows_macro_rules, grows_macro2s, grows_proc_macros, grows_builtin_derive_impls)
