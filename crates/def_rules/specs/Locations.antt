-- Locations that a visit adds to the session: that of its item, that of the macro that the item defines, and those of the item's impls.
use Rattle.std.specs.Prelude.{◌≡◌, ◌⊎◌, ℕ, Option, None, Some}
use Rattle.item_tree.specs.declared.items.ItemNode.{ItemNode}
use Rattle.item_tree.specs.declared.items.ModItemKind.{ModItemKind}
use Rattle.item_tree.specs.declared.items.ModItemKind.TheVariants.{Mod, Use, ExternCrate, ExternBlock, MacroCall, MacroRules, Macro2, Impl, Struct, Union, Enum, Function, Const, Static, Trait, TypeAlias}
use Rattle.def_ids.specs.declared.ids.Adt.{Adt}
use Rattle.def_ids.specs.declared.ids.Adt.TheVariants as adt_of
use Rattle.def_ids.specs.declared.ids.MacroId.{MacroId}
use Rattle.def_ids.specs.declared.ids.MacroId.TheVariants as macro_of
use Rattle.def_ids.specs.declared.locs.BuiltinDeriveImplLoc.{BuiltinDeriveImplLoc}
use Rattle.def_interner.specs.Session.{Session, AddsLocations, ItemKind, ItemLoc, MacroLoc, FunctionItem, StructItem, UnionItem, EnumItem, ConstItem, StaticItem, TraitItem, TypeAliasItem, ImplItem, UseItem, ExternCrateItem, ExternBlockItem}
use Rattle.def_rules.specs.Items.{loc_of, position_of}
use Rattle.def_rules.specs.State.{Site}

-- the kind of the number that an item gets, if it gets one
abbrev pub number_kind : ModItemKind → Option ItemKind
number_kind (Use raw imports) = Some UseItem
number_kind (ExternCrate name raw alias) = Some ExternCrateItem
number_kind (ExternBlock children) = Some ExternBlockItem
number_kind (Impl of_trait) = Some ImplItem
number_kind (Struct name raw ctor) = Some StructItem
number_kind (Union name raw) = Some UnionItem
number_kind (Enum name raw) = Some EnumItem
number_kind (Function name raw) = Some FunctionItem
number_kind (Const name raw) = Some ConstItem
number_kind (Static name raw) = Some StaticItem
number_kind (Trait name raw) = Some TraitItem
number_kind (TypeAlias name raw) = Some TypeAliasItem
number_kind (Mod name raw contents) = None
number_kind (MacroRules name) = None
number_kind (Macro2 name raw) = None
number_kind (MacroCall path expand_to ctxt) = None

-- a location is an item's own
pub record IsOwnItem (site : Site) (item : ItemNode) (kind : ItemKind) (loc : ItemLoc) : Type 0 where
  pub numbered : number_kind item.kind ≡ Some kind
  pub is : loc ≡ loc_of site kind item

-- an item of this kind defines a macro of this kind
abbrev pub DefinesMacro : ModItemKind → MacroId → Type 0
DefinesMacro (MacroRules name) (macro_of.MacroRules id) = Unit {0}
DefinesMacro (Macro2 name raw) (macro_of.Macro2 id) = Unit {0}
DefinesMacro (Function name raw) (macro_of.ProcMacro id) = Unit {0}
DefinesMacro _ _ = ⊥

-- a location is that of the macro that an item defines
pub record IsOwnMacro (site : Site) (item : ItemNode) (id : MacroId) (loc : MacroLoc) : Type 0 where
  pub defines : DefinesMacro item.kind id
  pub scope : loc.container ≡ site.scope
  pub position : loc.position ≡ position_of site item

-- an item is what impls are of
abbrev pub IsOwnAdt : Session → Site → ItemNode → Adt → Type 0
IsOwnAdt session site item (adt_of.Struct id) = (loc : ItemLoc) × (session.item StructItem id.0 ≡ Some loc) × IsOwnItem site item StructItem loc
IsOwnAdt session site item (adt_of.Union id) = (loc : ItemLoc) × (session.item UnionItem id.0 ≡ Some loc) × IsOwnItem site item UnionItem loc
IsOwnAdt session site item (adt_of.Enum id) = (loc : ItemLoc) × (session.item EnumItem id.0 ≡ Some loc) × IsOwnItem site item EnumItem loc

-- of the locations that are added each is one of these
pub record AddsOnly (OfItem : ItemKind → ItemLoc → Type 0) (OfMacro : MacroId → MacroLoc → Type 0) (OfImpl : BuiltinDeriveImplLoc → Type 0) (old new : Session) : Type 0 where
  pub adds : AddsLocations old new
  pub items : (kind : ItemKind) (n : ℕ) (loc : ItemLoc) → new.item kind n ≡ Some loc → (old.item kind n ≡ Some loc) ⊎ OfItem kind loc
  pub macros : (id : MacroId) (loc : MacroLoc) → new.macro_at id ≡ Some loc → (old.macro_at id ≡ Some loc) ⊎ OfMacro id loc
  pub impls : (n : ℕ) (loc : BuiltinDeriveImplLoc) → new.derive_impl n ≡ Some loc → (old.derive_impl n ≡ Some loc) ⊎ OfImpl loc

-- locations of an item alone are added
abbrev pub AddsOwn : Site → ItemNode → Session → Session → Type 0
AddsOwn site item old new = AddsOnly (IsOwnItem site item) (IsOwnMacro site item) (λ loc. IsOwnAdt new site item loc.adt) old new

-- locations of impls alone are
abbrev pub AddsImpls : Adt → Session → Session → Type 0
AddsImpls adt old new = AddsOnly (λ kind loc. ⊥) (λ id loc. ⊥) (λ loc. loc.adt ≡ adt) old new
