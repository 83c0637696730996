-- What a session shows: the location of each id and the text of each name.
use Rattle.std.specs.Prelude.{◌≡◌, ℕ, List, Option, Some, option_map, slice_get}
use Rattle.tree_ids.specs.declared.ids.FileAstId.{FileAstId}
use Rattle.tree_ids.specs.declared.ids.InFile.{InFile}
use Rattle.tree_ids.specs.declared.macro_flags.MacroRulesLocFlags.{MacroRulesLocFlags}
use Rattle.tree_ids.specs.declared.name.Name.{Name}
use Rattle.def_interner.specs.MacroKinds.{kind_of_expander}
use Rattle.def_ids.specs.declared.ids.ItemContainerId.{ItemContainerId}
use Rattle.def_ids.specs.declared.ids.ItemContainerId.TheVariants.{Module}
use Rattle.def_ids.specs.declared.ids.MacroId.{MacroId}
use Rattle.def_ids.specs.declared.ids.MacroId.TheVariants.{MacroRules, Macro2, ProcMacro}
use Rattle.def_ids.specs.declared.ids.Macro2Id.{Macro2Id}
use Rattle.def_ids.specs.declared.ids.MacroRulesId.{MacroRulesId}
use Rattle.def_ids.specs.declared.ids.ModuleId.{ModuleId}
use Rattle.def_ids.specs.declared.ids.ProcMacroId.{ProcMacroId}
use Rattle.def_interner.specs.declared.interner.Interner.{Interner}
use Rattle.def_ids.specs.declared.locs.BuiltinDeriveImplLoc.{BuiltinDeriveImplLoc}
use Rattle.def_ids.specs.declared.locs.Macro2Loc.{Macro2Loc}
use Rattle.def_ids.specs.declared.locs.MacroRulesLoc.{MacroRulesLoc}
use Rattle.def_ids.specs.declared.locs.ProcMacroLoc.{ProcMacroLoc}
use Rattle.def_ids.specs.declared.edition.Edition.{Edition}
use Rattle.def_interner.specs.declared.macro_def.MacroDefId.{MacroDefId}
use Rattle.def_interner.specs.declared.macro_def.MacroDefKind.{MacroDefKind}
use Rattle.def_interner.specs.declared.macro_def.MacroDefKind.TheVariants as kind

-- the kinds of items that have numbers
pub data ItemKind : Type 0 where
  FunctionItem : ItemKind
  StructItem : ItemKind
  UnionItem : ItemKind
  EnumItem : ItemKind
  ConstItem : ItemKind
  StaticItem : ItemKind
  TraitItem : ItemKind
  TypeAliasItem : ItemKind
  ImplItem : ItemKind
  UseItem : ItemKind
  ExternCrateItem : ItemKind
  ExternBlockItem : ItemKind

-- where an item stands
pub record ItemLoc : Type 0 where
  pub container : ItemContainerId
  pub position : InFile FileAstId

-- where a macro stands, and what it is
pub record MacroLoc : Type 0 where
  pub container : ModuleId
  pub position : InFile FileAstId
  pub kind : MacroDefKind
  pub flags : MacroRulesLocFlags
  pub edition : Edition

-- the tables of a session, as functions
pub record Session : Type 0 where
  pub text : Name → Option (List ℕ)
  pub item : ItemKind → ℕ → Option ItemLoc
  pub macro_at : MacroId → Option MacroLoc
  pub derive_impl : ℕ → Option BuiltinDeriveImplLoc

-- every number that had a location has it still, and every name its text
pub record Grows (old new : Session) : Type 0 where
  pub text : (n : Name) (t : List ℕ) → old.text n ≡ Some t → new.text n ≡ Some t
  pub item : (k : ItemKind) (i : ℕ) (loc : ItemLoc) → old.item k i ≡ Some loc → new.item k i ≡ Some loc
  pub macro_at : (m : MacroId) (loc : MacroLoc) → old.macro_at m ≡ Some loc → new.macro_at m ≡ Some loc
  pub derive_impl : (i : ℕ) (loc : BuiltinDeriveImplLoc) → old.derive_impl i ≡ Some loc → new.derive_impl i ≡ Some loc

-- locations alone were added: no name got a text
pub record AddsLocations (old new : Session) : Type 0 where
  pub text : new.text ≡ old.text
  pub grows : Grows old new

-- equal locations have equal numbers, in each of the kinds that have numbers of their own
pub record IsInjective (session : Session) : Type 0 where
  pub item : (k : ItemKind) (i j : ℕ) (loc : ItemLoc) → session.item k i ≡ Some loc → session.item k j ≡ Some loc → i ≡ j
  pub macro_rules : (a b : MacroRulesId) (loc : MacroLoc) → session.macro_at (MacroRules a) ≡ Some loc → session.macro_at (MacroRules b) ≡ Some loc → a ≡ b
  pub macro2 : (a b : Macro2Id) (loc : MacroLoc) → session.macro_at (Macro2 a) ≡ Some loc → session.macro_at (Macro2 b) ≡ Some loc → a ≡ b
  pub proc_macro : (a b : ProcMacroId) (loc : MacroLoc) → session.macro_at (ProcMacro a) ≡ Some loc → session.macro_at (ProcMacro b) ≡ Some loc → a ≡ b
  pub derive_impl : (i j : ℕ) (loc : BuiltinDeriveImplLoc) → session.derive_impl i ≡ Some loc → session.derive_impl j ≡ Some loc → i ≡ j

-- what expands a macro
abbrev pub macro_kind : Session → MacroId → Option MacroDefKind
macro_kind session id = option_map (λ loc. loc.kind) (session.macro_at id)

-- a macro with its crate, which is that of its module
abbrev pub macro_def : Session → MacroId → Option MacroDefId
macro_def session id = option_map (λ loc. record { krate = loc.container.map.krate; id = id; kind = loc.kind }) (session.macro_at id)

-- an item of a module
abbrev pub in_module : ModuleId → InFile FileAstId → ItemLoc
in_module m position = record { container = Module m; position = position }

-- an item of a container
abbrev pub in_container : ItemContainerId → InFile FileAstId → ItemLoc
in_container container position = record { container = container; position = position }

-- a `macro_rules` macro
abbrev pub rules_loc : MacroRulesLoc → MacroLoc
rules_loc loc =
    record {
      container = loc.container;
      position = loc.position;
      kind = kind_of_expander loc.expander;
      flags = loc.flags;
      edition = loc.edition;
    }

-- a `macro` item
abbrev pub macro2_loc : Macro2Loc → MacroLoc
macro2_loc loc =
    record {
      container = loc.container;
      position = loc.position;
      kind = kind_of_expander loc.expander;
      flags = loc.flags;
      edition = loc.edition;
    }

-- a procedural macro, which has none of the flags
abbrev pub proc_macro_loc : ProcMacroLoc → MacroLoc
proc_macro_loc loc =
    record {
      container = loc.container;
      position = loc.position;
      kind = kind.ProcMacro loc.expander loc.kind;
      flags = record { 0 = 0 };
      edition = loc.edition;
    }

-- the item of this kind and number
unfoldable pub shown_item : Interner → ItemKind → ℕ → Option ItemLoc
shown_item s FunctionItem i = option_map (λ loc. in_container loc.container loc.position) (slice_get s.functions i)
shown_item s StructItem i = option_map (λ loc. in_module loc.container loc.position) (slice_get s.structs i)
shown_item s UnionItem i = option_map (λ loc. in_module loc.container loc.position) (slice_get s.unions i)
shown_item s EnumItem i = option_map (λ loc. in_module loc.container loc.position) (slice_get s.enums i)
shown_item s ConstItem i = option_map (λ loc. in_container loc.container loc.position) (slice_get s.consts i)
shown_item s StaticItem i = option_map (λ loc. in_container loc.container loc.position) (slice_get s.statics i)
shown_item s TraitItem i = option_map (λ loc. in_module loc.container loc.position) (slice_get s.traits i)
shown_item s TypeAliasItem i = option_map (λ loc. in_container loc.container loc.position) (slice_get s.type_aliases i)
shown_item s ImplItem i = option_map (λ loc. in_module loc.container loc.position) (slice_get s.impls i)
shown_item s UseItem i = option_map (λ loc. in_module loc.container loc.position) (slice_get s.uses i)
shown_item s ExternCrateItem i = option_map (λ loc. in_module loc.container loc.position) (slice_get s.extern_crates i)
shown_item s ExternBlockItem i = option_map (λ loc. in_module loc.container loc.position) (slice_get s.extern_blocks i)

-- the macro of this id
unfoldable pub shown_macro : Interner → MacroId → Option MacroLoc
shown_macro s (MacroRules id) = option_map rules_loc (slice_get s.macro_rules id.0)
shown_macro s (Macro2 id) = option_map macro2_loc (slice_get s.macro2s id.0)
shown_macro s (ProcMacro id) = option_map proc_macro_loc (slice_get s.proc_macros id.0)

-- what a session's tables show
abbrev pub session_of : Interner → Session
session_of s =
    record {
      text = λ name. slice_get s.names name.0;
      item = shown_item s;
      macro_at = shown_macro s;
      derive_impl = slice_get s.builtin_derive_impls;
    }
