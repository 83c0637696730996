-- Laws of the locations that a visit adds.
use Rattle.std.proofs.Common.{◌≡◌, ◌⊎◌, ℕ, List, [], ◌∷◌, ◌++◌, Option, Some, inl, inr, zero, suc, option_map, slice_get, refl, sym, ap, subst, ◌∙◌}
use Rattle.item_tree.specs.Numbering.{IsGrownBy}
use Rattle.item_tree.specs.declared.items.ItemNode.{ItemNode}
use Rattle.item_tree.specs.declared.items.ModItemKind.{ModItemKind}
use Rattle.item_tree.specs.declared.items.ModItemKind.TheVariants.{MacroRules, Macro2, Struct, Union, Enum, Function}
use Rattle.item_tree.specs.declared.items.RawVisibility.{RawVisibility}
use Rattle.tree_ids.specs.declared.name.Name.{Name}
use Rattle.def_ids.specs.declared.ids.Adt.{Adt}
use Rattle.def_ids.specs.declared.ids.Adt.TheVariants as adt_of
use Rattle.def_ids.specs.declared.ids.MacroId.{MacroId}
use Rattle.def_ids.specs.declared.ids.MacroId.TheVariants as macro_of
use Rattle.def_ids.specs.declared.ids.MacroRulesId.{MacroRulesId}
use Rattle.def_ids.specs.declared.ids.Macro2Id.{Macro2Id}
use Rattle.def_ids.specs.declared.ids.ProcMacroId.{ProcMacroId}
use Rattle.def_ids.specs.declared.locs.BuiltinDeriveImplLoc.{BuiltinDeriveImplLoc}
use Rattle.def_ids.specs.declared.locs.ConstLoc.{ConstLoc}
use Rattle.def_ids.specs.declared.locs.EnumLoc.{EnumLoc}
use Rattle.def_ids.specs.declared.locs.ExternBlockLoc.{ExternBlockLoc}
use Rattle.def_ids.specs.declared.locs.ExternCrateLoc.{ExternCrateLoc}
use Rattle.def_ids.specs.declared.locs.FunctionLoc.{FunctionLoc}
use Rattle.def_ids.specs.declared.locs.ImplLoc.{ImplLoc}
use Rattle.def_ids.specs.declared.locs.Macro2Loc.{Macro2Loc}
use Rattle.def_ids.specs.declared.locs.MacroRulesLoc.{MacroRulesLoc}
use Rattle.def_ids.specs.declared.locs.ProcMacroLoc.{ProcMacroLoc}
use Rattle.def_ids.specs.declared.locs.StaticLoc.{StaticLoc}
use Rattle.def_ids.specs.declared.locs.StructLoc.{StructLoc}
use Rattle.def_ids.specs.declared.locs.TraitLoc.{TraitLoc}
use Rattle.def_ids.specs.declared.locs.TypeAliasLoc.{TypeAliasLoc}
use Rattle.def_ids.specs.declared.locs.UnionLoc.{UnionLoc}
use Rattle.def_ids.specs.declared.locs.UseLoc.{UseLoc}
use Rattle.def_interner.specs.Session.{Session, AddsLocations, ItemKind, ItemLoc, MacroLoc, in_container, in_module, macro2_loc, proc_macro_loc, rules_loc, session_of, shown_item, shown_macro}
use Rattle.def_interner.specs.Session.{FunctionItem, StructItem, UnionItem, EnumItem, ConstItem, StaticItem, TraitItem, TypeAliasItem, ImplItem, UseItem, ExternCrateItem, ExternBlockItem}
use Rattle.def_interner.specs.SessionLaws.{adds_refl, adds_trans}
use Rattle.def_interner.specs.declared.interner.Interner.{Interner}
use Rattle.def_rules.specs.Deferred.{IsAdt}
use Rattle.def_rules.specs.Items.{loc_of, position_of}
use Rattle.def_rules.specs.Locations.{AddsImpls, AddsOnly, AddsOwn, DefinesMacro, IsOwnAdt, IsOwnItem, IsOwnMacro, number_kind}
use Rattle.def_rules.specs.State.{Site, State}

-- Locations that are added one after the other

module _ {OfItem : ItemKind → ItemLoc → Type 0} {OfMacro : MacroId → MacroLoc → Type 0} {OfImpl : BuiltinDeriveImplLoc → Type 0} where
  -- to a session that stays none is added
  pub only_refl : (s : Session) → AddsOnly OfItem OfMacro OfImpl s s
  only_refl s = record { adds = adds_refl s; items = λ kind n loc at. inl at; macros = λ id loc at. inl at; impls = λ n loc at. inl at }

  -- what is added after such locations is such
  pub only_trans : (a b c : Session) → AddsOnly OfItem OfMacro OfImpl a b → AddsOnly OfItem OfMacro OfImpl b c → AddsOnly OfItem OfMacro OfImpl a c
  only_trans a b c first second = record {
    adds = adds_trans a b c first.adds second.adds;
    items = λ kind n loc at. elim (second.items kind n loc at) [
      | inl before ↦ first.items kind n loc before
      | inr own ↦ inr own
    ];
    macros = λ id loc at. elim (second.macros id loc at) [
      | inl before ↦ first.macros id loc before
      | inr own ↦ inr own
    ];
    impls = λ n loc at. elim (second.impls n loc at) [
      | inl before ↦ first.impls n loc before
      | inr own ↦ inr own
    ];
  }

module _ (site : Site) (item : ItemNode) where
  -- an item is what impls are of, also once locations are added
  adt_stays : (old new : Session) → AddsLocations old new → (adt : Adt) → IsOwnAdt old site item adt → IsOwnAdt new site item adt
  adt_stays old new adds (adt_of.Struct id) (loc, at, own) = (loc, adds.grows.item StructItem id.0 loc at, own)
  adt_stays old new adds (adt_of.Union id) (loc, at, own) = (loc, adds.grows.item UnionItem id.0 loc at, own)
  adt_stays old new adds (adt_of.Enum id) (loc, at, own) = (loc, adds.grows.item EnumItem id.0 loc at, own)

  -- what has a struct's number, a union's or an enum's is what impls are of
  pub own_adt : (s : State) (adt : Adt) (kind : ModItemKind) → item.kind ≡ kind → IsAdt s site item kind adt → IsOwnAdt s.session site item adt
  own_adt s adt (Struct name raw ctor) is (n, numbered, same) = subst (IsOwnAdt s.session site item) (sym same) (loc_of site StructItem item, numbered, record { numbered = ap number_kind is; is = refl })
  own_adt s adt (Union name raw) is (n, numbered, same) = subst (IsOwnAdt s.session site item) (sym same) (loc_of site UnionItem item, numbered, record { numbered = ap number_kind is; is = refl })
  own_adt s adt (Enum name raw) is (n, numbered, same) = subst (IsOwnAdt s.session site item) (sym same) (loc_of site EnumItem item, numbered, record { numbered = ap number_kind is; is = refl })
  own_adt s adt _ is none = absurd none

  -- to a session that stays no location is added
  pub own_refl : (s : Session) → AddsOwn site item s s
  own_refl s = only_refl s

  -- after locations of an item, locations of it
  pub own_trans : (a b c : Session) → AddsOwn site item a b → AddsOwn site item b c → AddsOwn site item a c
  own_trans a b c first second =
      only_trans a b c
      (record {
        adds = first.adds;
        items = first.items;
        macros = first.macros;
        impls = λ n loc at. elim (first.impls n loc at) [
          | inl before ↦ inl before
          | inr own ↦ inr (adt_stays b c second.adds loc.adt own)
        ];
      })
      second

  -- impls of an item are the item's
  pub own_impls : (old new : Session) (adt : Adt) → IsOwnAdt old site item adt → AddsImpls adt old new → AddsOwn site item old new
  own_impls old new adt of_item added = record {
    adds = added.adds;
    items = λ kind n loc at. elim (added.items kind n loc at) [
      | inl before ↦ inl before
      | inr none ↦ absurd none
    ];
    macros = λ id loc at. elim (added.macros id loc at) [
      | inl before ↦ inl before
      | inr none ↦ absurd none
    ];
    impls = λ n loc at. elim (added.impls n loc at) [
      | inl before ↦ inl before
      | inr same ↦ inr (subst (IsOwnAdt new site item) (sym same) (adt_stays old new added.adds adt of_item))
    ];
  }

-- Locations that are interned

-- what is shown at a place of a list that has one element more
shown_behind : {A B : Type 0} (shown : A → B) (x : A) (xs : List A) (i : ℕ) (b : B) → option_map shown (slice_get (xs ++ x ∷ []) i) ≡ Some b → (option_map shown (slice_get xs i) ≡ Some b) ⊎ (b ≡ shown x)
shown_behind shown x [] zero b at = inr cc
shown_behind shown x [] (suc i) b at = cc
shown_behind shown x (y ∷ ys) zero b at = inl at
shown_behind shown x (y ∷ ys) (suc i) b at = shown_behind shown x ys i b at

-- and of one that has grown by it
shown_grown : {A B : Type 0} (shown : A → B) (x : A) (old new : List A) → IsGrownBy x old new → (i : ℕ) (b : B) → option_map shown (slice_get new i) ≡ Some b → (option_map shown (slice_get old i) ≡ Some b) ⊎ (b ≡ shown x)
shown_grown shown x old new (inl same) i b at = inl (ap (λ l. option_map shown (slice_get l i)) (sym same) ∙ at)
shown_grown shown x old new (inr more) i b at = shown_behind shown x old i b (ap (λ l. option_map shown (slice_get l i)) (sym more) ∙ at)

-- An item's number

-- what is new is this location, of this kind
abbrev IsThis : ItemKind → ItemLoc → ItemKind → ItemLoc → Type 0
IsThis kind loc k l = (k ≡ kind) × (l ≡ loc)

abbrev this : {P : Type 0} {kind : ItemKind} {loc l : ItemLoc} → P ⊎ (l ≡ loc) → P ⊎ IsThis kind loc kind l
this (inl before) = inl before
this (inr is) = inr (refl, is)

-- it is the item's own
own_this : (site : Site) (item : ItemNode) (kind : ItemKind) (loc : ItemLoc) → number_kind item.kind ≡ Some kind → loc ≡ loc_of site kind item → {P : Type 0} (k : ItemKind) (l : ItemLoc) → P ⊎ IsThis kind loc k l → P ⊎ IsOwnItem site item k l
own_this site item kind loc numbered is k l (inl before) = inl before
own_this site item kind loc numbered is k l (inr (same, here)) = inr (record { numbered = numbered ∙ ap (λ x. Some x) (sym same); is = here ∙ is ∙ ap (λ x. loc_of site x item) (sym same) })

items_of_functions : (s : Interner) (x : FunctionLoc) (xs : List FunctionLoc) → IsGrownBy x s.functions xs → (k : ItemKind) (i : ℕ) (loc : ItemLoc) → shown_item (record s { functions = xs }) k i ≡ Some loc → (shown_item s k i ≡ Some loc) ⊎ IsThis FunctionItem (in_container x.container x.position) k loc
unfolding shown_item
items_of_functions s x xs grown FunctionItem i loc at = this (shown_grown (λ (l : FunctionLoc). in_container l.container l.position) x s.functions xs grown i loc at)
items_of_functions s x xs grown _ i loc at = inl at

items_of_structs : (s : Interner) (x : StructLoc) (xs : List StructLoc) → IsGrownBy x s.structs xs → (k : ItemKind) (i : ℕ) (loc : ItemLoc) → shown_item (record s { structs = xs }) k i ≡ Some loc → (shown_item s k i ≡ Some loc) ⊎ IsThis StructItem (in_module x.container x.position) k loc
unfolding shown_item
items_of_structs s x xs grown StructItem i loc at = this (shown_grown (λ (l : StructLoc). in_module l.container l.position) x s.structs xs grown i loc at)
items_of_structs s x xs grown _ i loc at = inl at

items_of_unions : (s : Interner) (x : UnionLoc) (xs : List UnionLoc) → IsGrownBy x s.unions xs → (k : ItemKind) (i : ℕ) (loc : ItemLoc) → shown_item (record s { unions = xs }) k i ≡ Some loc → (shown_item s k i ≡ Some loc) ⊎ IsThis UnionItem (in_module x.container x.position) k loc
unfolding shown_item
items_of_unions s x xs grown UnionItem i loc at = this (shown_grown (λ (l : UnionLoc). in_module l.container l.position) x s.unions xs grown i loc at)
items_of_unions s x xs grown _ i loc at = inl at

items_of_enums : (s : Interner) (x : EnumLoc) (xs : List EnumLoc) → IsGrownBy x s.enums xs → (k : ItemKind) (i : ℕ) (loc : ItemLoc) → shown_item (record s { enums = xs }) k i ≡ Some loc → (shown_item s k i ≡ Some loc) ⊎ IsThis EnumItem (in_module x.container x.position) k loc
unfolding shown_item
items_of_enums s x xs grown EnumItem i loc at = this (shown_grown (λ (l : EnumLoc). in_module l.container l.position) x s.enums xs grown i loc at)
items_of_enums s x xs grown _ i loc at = inl at

items_of_consts : (s : Interner) (x : ConstLoc) (xs : List ConstLoc) → IsGrownBy x s.consts xs → (k : ItemKind) (i : ℕ) (loc : ItemLoc) → shown_item (record s { consts = xs }) k i ≡ Some loc → (shown_item s k i ≡ Some loc) ⊎ IsThis ConstItem (in_container x.container x.position) k loc
unfolding shown_item
items_of_consts s x xs grown ConstItem i loc at = this (shown_grown (λ (l : ConstLoc). in_container l.container l.position) x s.consts xs grown i loc at)
items_of_consts s x xs grown _ i loc at = inl at

items_of_statics : (s : Interner) (x : StaticLoc) (xs : List StaticLoc) → IsGrownBy x s.statics xs → (k : ItemKind) (i : ℕ) (loc : ItemLoc) → shown_item (record s { statics = xs }) k i ≡ Some loc → (shown_item s k i ≡ Some loc) ⊎ IsThis StaticItem (in_container x.container x.position) k loc
unfolding shown_item
items_of_statics s x xs grown StaticItem i loc at = this (shown_grown (λ (l : StaticLoc). in_container l.container l.position) x s.statics xs grown i loc at)
items_of_statics s x xs grown _ i loc at = inl at

items_of_traits : (s : Interner) (x : TraitLoc) (xs : List TraitLoc) → IsGrownBy x s.traits xs → (k : ItemKind) (i : ℕ) (loc : ItemLoc) → shown_item (record s { traits = xs }) k i ≡ Some loc → (shown_item s k i ≡ Some loc) ⊎ IsThis TraitItem (in_module x.container x.position) k loc
unfolding shown_item
items_of_traits s x xs grown TraitItem i loc at = this (shown_grown (λ (l : TraitLoc). in_module l.container l.position) x s.traits xs grown i loc at)
items_of_traits s x xs grown _ i loc at = inl at

items_of_type_aliases : (s : Interner) (x : TypeAliasLoc) (xs : List TypeAliasLoc) → IsGrownBy x s.type_aliases xs → (k : ItemKind) (i : ℕ) (loc : ItemLoc) → shown_item (record s { type_aliases = xs }) k i ≡ Some loc → (shown_item s k i ≡ Some loc) ⊎ IsThis TypeAliasItem (in_container x.container x.position) k loc
unfolding shown_item
items_of_type_aliases s x xs grown TypeAliasItem i loc at = this (shown_grown (λ (l : TypeAliasLoc). in_container l.container l.position) x s.type_aliases xs grown i loc at)
items_of_type_aliases s x xs grown _ i loc at = inl at

items_of_impls : (s : Interner) (x : ImplLoc) (xs : List ImplLoc) → IsGrownBy x s.impls xs → (k : ItemKind) (i : ℕ) (loc : ItemLoc) → shown_item (record s { impls = xs }) k i ≡ Some loc → (shown_item s k i ≡ Some loc) ⊎ IsThis ImplItem (in_module x.container x.position) k loc
unfolding shown_item
items_of_impls s x xs grown ImplItem i loc at = this (shown_grown (λ (l : ImplLoc). in_module l.container l.position) x s.impls xs grown i loc at)
items_of_impls s x xs grown _ i loc at = inl at

items_of_uses : (s : Interner) (x : UseLoc) (xs : List UseLoc) → IsGrownBy x s.uses xs → (k : ItemKind) (i : ℕ) (loc : ItemLoc) → shown_item (record s { uses = xs }) k i ≡ Some loc → (shown_item s k i ≡ Some loc) ⊎ IsThis UseItem (in_module x.container x.position) k loc
unfolding shown_item
items_of_uses s x xs grown UseItem i loc at = this (shown_grown (λ (l : UseLoc). in_module l.container l.position) x s.uses xs grown i loc at)
items_of_uses s x xs grown _ i loc at = inl at

items_of_extern_crates : (s : Interner) (x : ExternCrateLoc) (xs : List ExternCrateLoc) → IsGrownBy x s.extern_crates xs → (k : ItemKind) (i : ℕ) (loc : ItemLoc) → shown_item (record s { extern_crates = xs }) k i ≡ Some loc → (shown_item s k i ≡ Some loc) ⊎ IsThis ExternCrateItem (in_module x.container x.position) k loc
unfolding shown_item
items_of_extern_crates s x xs grown ExternCrateItem i loc at = this (shown_grown (λ (l : ExternCrateLoc). in_module l.container l.position) x s.extern_crates xs grown i loc at)
items_of_extern_crates s x xs grown _ i loc at = inl at

items_of_extern_blocks : (s : Interner) (x : ExternBlockLoc) (xs : List ExternBlockLoc) → IsGrownBy x s.extern_blocks xs → (k : ItemKind) (i : ℕ) (loc : ItemLoc) → shown_item (record s { extern_blocks = xs }) k i ≡ Some loc → (shown_item s k i ≡ Some loc) ⊎ IsThis ExternBlockItem (in_module x.container x.position) k loc
unfolding shown_item
items_of_extern_blocks s x xs grown ExternBlockItem i loc at = this (shown_grown (λ (l : ExternBlockLoc). in_module l.container l.position) x s.extern_blocks xs grown i loc at)
items_of_extern_blocks s x xs grown _ i loc at = inl at

module _ (site : Site) (item : ItemNode) (s t : Interner) where
  grown_functions : (x : FunctionLoc) (xs : List FunctionLoc) → number_kind item.kind ≡ Some FunctionItem → in_container x.container x.position ≡ loc_of site FunctionItem item → IsGrownBy x s.functions xs → AddsLocations (session_of s) (session_of (record s { functions = xs }))
      → AddsOwn site item (session_of s) (session_of (record s { functions = xs }))
  unfolding shown_macro
  grown_functions x xs numbered is grown adds = record {
    adds = adds;
    items = λ kind n loc at. own_this site item FunctionItem (in_container x.container x.position) numbered is kind loc (items_of_functions s x xs grown kind n loc at);
    macros = λ id loc at. inl at;
    impls = λ n loc at. inl at;
  }

  pub own_function : (x : FunctionLoc) → number_kind item.kind ≡ Some FunctionItem → in_container x.container x.position ≡ loc_of site FunctionItem item → IsGrownBy x s.functions t.functions → t ≡ record s { functions = t.functions } → AddsLocations (session_of s) (session_of t)
      → AddsOwn site item (session_of s) (session_of t)
  own_function x numbered is grown others adds =
      subst (λ u. AddsOwn site item (session_of s) (session_of u)) (sym others) (grown_functions x t.functions numbered is grown (subst (λ u. AddsLocations (session_of s) (session_of u)) others adds))

  grown_structs : (x : StructLoc) (xs : List StructLoc) → number_kind item.kind ≡ Some StructItem → in_module x.container x.position ≡ loc_of site StructItem item → IsGrownBy x s.structs xs → AddsLocations (session_of s) (session_of (record s { structs = xs }))
      → AddsOwn site item (session_of s) (session_of (record s { structs = xs }))
  unfolding shown_macro
  grown_structs x xs numbered is grown adds = record {
    adds = adds;
    items = λ kind n loc at. own_this site item StructItem (in_module x.container x.position) numbered is kind loc (items_of_structs s x xs grown kind n loc at);
    macros = λ id loc at. inl at;
    impls = λ n loc at. inl at;
  }

  pub own_struct : (x : StructLoc) → number_kind item.kind ≡ Some StructItem → in_module x.container x.position ≡ loc_of site StructItem item → IsGrownBy x s.structs t.structs → t ≡ record s { structs = t.structs } → AddsLocations (session_of s) (session_of t)
      → AddsOwn site item (session_of s) (session_of t)
  own_struct x numbered is grown others adds =
      subst (λ u. AddsOwn site item (session_of s) (session_of u)) (sym others) (grown_structs x t.structs numbered is grown (subst (λ u. AddsLocations (session_of s) (session_of u)) others adds))

  grown_unions : (x : UnionLoc) (xs : List UnionLoc) → number_kind item.kind ≡ Some UnionItem → in_module x.container x.position ≡ loc_of site UnionItem item → IsGrownBy x s.unions xs → AddsLocations (session_of s) (session_of (record s { unions = xs }))
      → AddsOwn site item (session_of s) (session_of (record s { unions = xs }))
  unfolding shown_macro
  grown_unions x xs numbered is grown adds = record {
    adds = adds;
    items = λ kind n loc at. own_this site item UnionItem (in_module x.container x.position) numbered is kind loc (items_of_unions s x xs grown kind n loc at);
    macros = λ id loc at. inl at;
    impls = λ n loc at. inl at;
  }

  pub own_union : (x : UnionLoc) → number_kind item.kind ≡ Some UnionItem → in_module x.container x.position ≡ loc_of site UnionItem item → IsGrownBy x s.unions t.unions → t ≡ record s { unions = t.unions } → AddsLocations (session_of s) (session_of t)
      → AddsOwn site item (session_of s) (session_of t)
  own_union x numbered is grown others adds =
      subst (λ u. AddsOwn site item (session_of s) (session_of u)) (sym others) (grown_unions x t.unions numbered is grown (subst (λ u. AddsLocations (session_of s) (session_of u)) others adds))

  grown_enums : (x : EnumLoc) (xs : List EnumLoc) → number_kind item.kind ≡ Some EnumItem → in_module x.container x.position ≡ loc_of site EnumItem item → IsGrownBy x s.enums xs → AddsLocations (session_of s) (session_of (record s { enums = xs }))
      → AddsOwn site item (session_of s) (session_of (record s { enums = xs }))
  unfolding shown_macro
  grown_enums x xs numbered is grown adds = record {
    adds = adds;
    items = λ kind n loc at. own_this site item EnumItem (in_module x.container x.position) numbered is kind loc (items_of_enums s x xs grown kind n loc at);
    macros = λ id loc at. inl at;
    impls = λ n loc at. inl at;
  }

  pub own_enum : (x : EnumLoc) → number_kind item.kind ≡ Some EnumItem → in_module x.container x.position ≡ loc_of site EnumItem item → IsGrownBy x s.enums t.enums → t ≡ record s { enums = t.enums } → AddsLocations (session_of s) (session_of t)
      → AddsOwn site item (session_of s) (session_of t)
  own_enum x numbered is grown others adds =
      subst (λ u. AddsOwn site item (session_of s) (session_of u)) (sym others) (grown_enums x t.enums numbered is grown (subst (λ u. AddsLocations (session_of s) (session_of u)) others adds))

  grown_consts : (x : ConstLoc) (xs : List ConstLoc) → number_kind item.kind ≡ Some ConstItem → in_container x.container x.position ≡ loc_of site ConstItem item → IsGrownBy x s.consts xs → AddsLocations (session_of s) (session_of (record s { consts = xs }))
      → AddsOwn site item (session_of s) (session_of (record s { consts = xs }))
  unfolding shown_macro
  grown_consts x xs numbered is grown adds = record {
    adds = adds;
    items = λ kind n loc at. own_this site item ConstItem (in_container x.container x.position) numbered is kind loc (items_of_consts s x xs grown kind n loc at);
    macros = λ id loc at. inl at;
    impls = λ n loc at. inl at;
  }

  pub own_const : (x : ConstLoc) → number_kind item.kind ≡ Some ConstItem → in_container x.container x.position ≡ loc_of site ConstItem item → IsGrownBy x s.consts t.consts → t ≡ record s { consts = t.consts } → AddsLocations (session_of s) (session_of t)
      → AddsOwn site item (session_of s) (session_of t)
  own_const x numbered is grown others adds =
      subst (λ u. AddsOwn site item (session_of s) (session_of u)) (sym others) (grown_consts x t.consts numbered is grown (subst (λ u. AddsLocations (session_of s) (session_of u)) others adds))

  grown_statics : (x : StaticLoc) (xs : List StaticLoc) → number_kind item.kind ≡ Some StaticItem → in_container x.container x.position ≡ loc_of site StaticItem item → IsGrownBy x s.statics xs → AddsLocations (session_of s) (session_of (record s { statics = xs }))
      → AddsOwn site item (session_of s) (session_of (record s { statics = xs }))
  unfolding shown_macro
  grown_statics x xs numbered is grown adds = record {
    adds = adds;
    items = λ kind n loc at. own_this site item StaticItem (in_container x.container x.position) numbered is kind loc (items_of_statics s x xs grown kind n loc at);
    macros = λ id loc at. inl at;
    impls = λ n loc at. inl at;
  }

  pub own_static : (x : StaticLoc) → number_kind item.kind ≡ Some StaticItem → in_container x.container x.position ≡ loc_of site StaticItem item → IsGrownBy x s.statics t.statics → t ≡ record s { statics = t.statics } → AddsLocations (session_of s) (session_of t)
      → AddsOwn site item (session_of s) (session_of t)
  own_static x numbered is grown others adds =
      subst (λ u. AddsOwn site item (session_of s) (session_of u)) (sym others) (grown_statics x t.statics numbered is grown (subst (λ u. AddsLocations (session_of s) (session_of u)) others adds))

  grown_traits : (x : TraitLoc) (xs : List TraitLoc) → number_kind item.kind ≡ Some TraitItem → in_module x.container x.position ≡ loc_of site TraitItem item → IsGrownBy x s.traits xs → AddsLocations (session_of s) (session_of (record s { traits = xs }))
      → AddsOwn site item (session_of s) (session_of (record s { traits = xs }))
  unfolding shown_macro
  grown_traits x xs numbered is grown adds = record {
    adds = adds;
    items = λ kind n loc at. own_this site item TraitItem (in_module x.container x.position) numbered is kind loc (items_of_traits s x xs grown kind n loc at);
    macros = λ id loc at. inl at;
    impls = λ n loc at. inl at;
  }

  pub own_trait : (x : TraitLoc) → number_kind item.kind ≡ Some TraitItem → in_module x.container x.position ≡ loc_of site TraitItem item → IsGrownBy x s.traits t.traits → t ≡ record s { traits = t.traits } → AddsLocations (session_of s) (session_of t)
      → AddsOwn site item (session_of s) (session_of t)
  own_trait x numbered is grown others adds =
      subst (λ u. AddsOwn site item (session_of s) (session_of u)) (sym others) (grown_traits x t.traits numbered is grown (subst (λ u. AddsLocations (session_of s) (session_of u)) others adds))

  grown_type_aliases : (x : TypeAliasLoc) (xs : List TypeAliasLoc) → number_kind item.kind ≡ Some TypeAliasItem → in_container x.container x.position ≡ loc_of site TypeAliasItem item → IsGrownBy x s.type_aliases xs → AddsLocations (session_of s) (session_of (record s { type_aliases = xs }))
      → AddsOwn site item (session_of s) (session_of (record s { type_aliases = xs }))
  unfolding shown_macro
  grown_type_aliases x xs numbered is grown adds = record {
    adds = adds;
    items = λ kind n loc at. own_this site item TypeAliasItem (in_container x.container x.position) numbered is kind loc (items_of_type_aliases s x xs grown kind n loc at);
    macros = λ id loc at. inl at;
    impls = λ n loc at. inl at;
  }

  pub own_type_alias : (x : TypeAliasLoc) → number_kind item.kind ≡ Some TypeAliasItem → in_container x.container x.position ≡ loc_of site TypeAliasItem item → IsGrownBy x s.type_aliases t.type_aliases → t ≡ record s { type_aliases = t.type_aliases } → AddsLocations (session_of s) (session_of t)
      → AddsOwn site item (session_of s) (session_of t)
  own_type_alias x numbered is grown others adds =
      subst (λ u. AddsOwn site item (session_of s) (session_of u)) (sym others) (grown_type_aliases x t.type_aliases numbered is grown (subst (λ u. AddsLocations (session_of s) (session_of u)) others adds))

  grown_impls : (x : ImplLoc) (xs : List ImplLoc) → number_kind item.kind ≡ Some ImplItem → in_module x.container x.position ≡ loc_of site ImplItem item → IsGrownBy x s.impls xs → AddsLocations (session_of s) (session_of (record s { impls = xs }))
      → AddsOwn site item (session_of s) (session_of (record s { impls = xs }))
  unfolding shown_macro
  grown_impls x xs numbered is grown adds = record {
    adds = adds;
    items = λ kind n loc at. own_this site item ImplItem (in_module x.container x.position) numbered is kind loc (items_of_impls s x xs grown kind n loc at);
    macros = λ id loc at. inl at;
    impls = λ n loc at. inl at;
  }

  pub own_impl : (x : ImplLoc) → number_kind item.kind ≡ Some ImplItem → in_module x.container x.position ≡ loc_of site ImplItem item → IsGrownBy x s.impls t.impls → t ≡ record s { impls = t.impls } → AddsLocations (session_of s) (session_of t)
      → AddsOwn site item (session_of s) (session_of t)
  own_impl x numbered is grown others adds =
      subst (λ u. AddsOwn site item (session_of s) (session_of u)) (sym others) (grown_impls x t.impls numbered is grown (subst (λ u. AddsLocations (session_of s) (session_of u)) others adds))

  grown_uses : (x : UseLoc) (xs : List UseLoc) → number_kind item.kind ≡ Some UseItem → in_module x.container x.position ≡ loc_of site UseItem item → IsGrownBy x s.uses xs → AddsLocations (session_of s) (session_of (record s { uses = xs }))
      → AddsOwn site item (session_of s) (session_of (record s { uses = xs }))
  unfolding shown_macro
  grown_uses x xs numbered is grown adds = record {
    adds = adds;
    items = λ kind n loc at. own_this site item UseItem (in_module x.container x.position) numbered is kind loc (items_of_uses s x xs grown kind n loc at);
    macros = λ id loc at. inl at;
    impls = λ n loc at. inl at;
  }

  pub own_use : (x : UseLoc) → number_kind item.kind ≡ Some UseItem → in_module x.container x.position ≡ loc_of site UseItem item → IsGrownBy x s.uses t.uses → t ≡ record s { uses = t.uses } → AddsLocations (session_of s) (session_of t)
      → AddsOwn site item (session_of s) (session_of t)
  own_use x numbered is grown others adds =
      subst (λ u. AddsOwn site item (session_of s) (session_of u)) (sym others) (grown_uses x t.uses numbered is grown (subst (λ u. AddsLocations (session_of s) (session_of u)) others adds))

  grown_extern_crates : (x : ExternCrateLoc) (xs : List ExternCrateLoc) → number_kind item.kind ≡ Some ExternCrateItem → in_module x.container x.position ≡ loc_of site ExternCrateItem item → IsGrownBy x s.extern_crates xs → AddsLocations (session_of s) (session_of (record s { extern_crates = xs }))
      → AddsOwn site item (session_of s) (session_of (record s { extern_crates = xs }))
  unfolding shown_macro
  grown_extern_crates x xs numbered is grown adds = record {
    adds = adds;
    items = λ kind n loc at. own_this site item ExternCrateItem (in_module x.container x.position) numbered is kind loc (items_of_extern_crates s x xs grown kind n loc at);
    macros = λ id loc at. inl at;
    impls = λ n loc at. inl at;
  }

  pub own_extern_crate : (x : ExternCrateLoc) → number_kind item.kind ≡ Some ExternCrateItem → in_module x.container x.position ≡ loc_of site ExternCrateItem item → IsGrownBy x s.extern_crates t.extern_crates → t ≡ record s { extern_crates = t.extern_crates } → AddsLocations (session_of s) (session_of t)
      → AddsOwn site item (session_of s) (session_of t)
  own_extern_crate x numbered is grown others adds =
      subst (λ u. AddsOwn site item (session_of s) (session_of u)) (sym others) (grown_extern_crates x t.extern_crates numbered is grown (subst (λ u. AddsLocations (session_of s) (session_of u)) others adds))

  grown_extern_blocks : (x : ExternBlockLoc) (xs : List ExternBlockLoc) → number_kind item.kind ≡ Some ExternBlockItem → in_module x.container x.position ≡ loc_of site ExternBlockItem item → IsGrownBy x s.extern_blocks xs → AddsLocations (session_of s) (session_of (record s { extern_blocks = xs }))
      → AddsOwn site item (session_of s) (session_of (record s { extern_blocks = xs }))
  unfolding shown_macro
  grown_extern_blocks x xs numbered is grown adds = record {
    adds = adds;
    items = λ kind n loc at. own_this site item ExternBlockItem (in_module x.container x.position) numbered is kind loc (items_of_extern_blocks s x xs grown kind n loc at);
    macros = λ id loc at. inl at;
    impls = λ n loc at. inl at;
  }

  pub own_extern_block : (x : ExternBlockLoc) → number_kind item.kind ≡ Some ExternBlockItem → in_module x.container x.position ≡ loc_of site ExternBlockItem item → IsGrownBy x s.extern_blocks t.extern_blocks → t ≡ record s { extern_blocks = t.extern_blocks } → AddsLocations (session_of s) (session_of t)
      → AddsOwn site item (session_of s) (session_of t)
  own_extern_block x numbered is grown others adds =
      subst (λ u. AddsOwn site item (session_of s) (session_of u)) (sym others) (grown_extern_blocks x t.extern_blocks numbered is grown (subst (λ u. AddsLocations (session_of s) (session_of u)) others adds))

-- The number of the macro that an item defines

macros_of_macro_rules : (s : Interner) (x : MacroRulesLoc) (xs : List MacroRulesLoc) → IsGrownBy x s.macro_rules xs → (id : MacroId) (loc : MacroLoc) → shown_macro (record s { macro_rules = xs }) id ≡ Some loc
    → (shown_macro s id ≡ Some loc) ⊎ ((n : MacroRulesId) × (id ≡ macro_of.MacroRules n) × (loc ≡ rules_loc x))
unfolding shown_macro
macros_of_macro_rules s x xs grown (macro_of.MacroRules n) loc at = elim (shown_grown rules_loc x s.macro_rules xs grown n.0 loc at) [
  | inl before ↦ inl before
  | inr is ↦ inr (n, refl, is)
]
macros_of_macro_rules s x xs grown _ loc at = inl at

macros_of_macro2s : (s : Interner) (x : Macro2Loc) (xs : List Macro2Loc) → IsGrownBy x s.macro2s xs → (id : MacroId) (loc : MacroLoc) → shown_macro (record s { macro2s = xs }) id ≡ Some loc
    → (shown_macro s id ≡ Some loc) ⊎ ((n : Macro2Id) × (id ≡ macro_of.Macro2 n) × (loc ≡ macro2_loc x))
unfolding shown_macro
macros_of_macro2s s x xs grown (macro_of.Macro2 n) loc at = elim (shown_grown macro2_loc x s.macro2s xs grown n.0 loc at) [
  | inl before ↦ inl before
  | inr is ↦ inr (n, refl, is)
]
macros_of_macro2s s x xs grown _ loc at = inl at

macros_of_proc_macros : (s : Interner) (x : ProcMacroLoc) (xs : List ProcMacroLoc) → IsGrownBy x s.proc_macros xs → (id : MacroId) (loc : MacroLoc) → shown_macro (record s { proc_macros = xs }) id ≡ Some loc
    → (shown_macro s id ≡ Some loc) ⊎ ((n : ProcMacroId) × (id ≡ macro_of.ProcMacro n) × (loc ≡ proc_macro_loc x))
unfolding shown_macro
macros_of_proc_macros s x xs grown (macro_of.ProcMacro n) loc at = elim (shown_grown proc_macro_loc x s.proc_macros xs grown n.0 loc at) [
  | inl before ↦ inl before
  | inr is ↦ inr (n, refl, is)
]
macros_of_proc_macros s x xs grown _ loc at = inl at

module _ (site : Site) (item : ItemNode) (s t : Interner) where
  defined_in_macro_rules : (x : MacroRulesLoc) (id : MacroId) (loc : MacroLoc) → (name : Name) → item.kind ≡ MacroRules name → x.container ≡ site.scope → x.position ≡ position_of site item → (n : MacroRulesId) × (id ≡ macro_of.MacroRules n) × (loc ≡ rules_loc x) → IsOwnMacro site item id loc
  defined_in_macro_rules x id loc name kind scope position (n, same, is) = record {
    defines = subst (DefinesMacro item.kind) (sym same) (subst (λ k. DefinesMacro k (macro_of.MacroRules n)) (sym kind) tt);
    scope = ap (λ (l : MacroLoc). l.container) is ∙ scope;
    position = ap (λ (l : MacroLoc). l.position) is ∙ position;
  }

  grown_macro_rules : (x : MacroRulesLoc) (xs : List MacroRulesLoc) → (name : Name) → item.kind ≡ MacroRules name → x.container ≡ site.scope → x.position ≡ position_of site item → IsGrownBy x s.macro_rules xs → AddsLocations (session_of s) (session_of (record s { macro_rules = xs }))
      → AddsOwn site item (session_of s) (session_of (record s { macro_rules = xs }))
  unfolding shown_item
  grown_macro_rules x xs name kind scope position grown adds = record {
    adds = adds;
    items = λ k i loc at. inl at;
    macros = λ id loc at. elim (macros_of_macro_rules s x xs grown id loc at) [
      | inl before ↦ inl before
      | inr is ↦ inr (defined_in_macro_rules x id loc name kind scope position is)
    ];
    impls = λ i loc at. inl at;
  }

  pub own_macro_rules : (x : MacroRulesLoc) → (name : Name) → item.kind ≡ MacroRules name → x.container ≡ site.scope → x.position ≡ position_of site item → IsGrownBy x s.macro_rules t.macro_rules → t ≡ record s { macro_rules = t.macro_rules } → AddsLocations (session_of s) (session_of t)
      → AddsOwn site item (session_of s) (session_of t)
  own_macro_rules x name kind scope position grown others adds =
      subst (λ u. AddsOwn site item (session_of s) (session_of u)) (sym others) (grown_macro_rules x t.macro_rules name kind scope position grown (subst (λ u. AddsLocations (session_of s) (session_of u)) others adds))

  defined_in_macro2s : (x : Macro2Loc) (id : MacroId) (loc : MacroLoc) → (name : Name) (raw : RawVisibility) → item.kind ≡ Macro2 name raw → x.container ≡ site.scope → x.position ≡ position_of site item → (n : Macro2Id) × (id ≡ macro_of.Macro2 n) × (loc ≡ macro2_loc x) → IsOwnMacro site item id loc
  defined_in_macro2s x id loc name raw kind scope position (n, same, is) = record {
    defines = subst (DefinesMacro item.kind) (sym same) (subst (λ k. DefinesMacro k (macro_of.Macro2 n)) (sym kind) tt);
    scope = ap (λ (l : MacroLoc). l.container) is ∙ scope;
    position = ap (λ (l : MacroLoc). l.position) is ∙ position;
  }

  grown_macro2s : (x : Macro2Loc) (xs : List Macro2Loc) → (name : Name) (raw : RawVisibility) → item.kind ≡ Macro2 name raw → x.container ≡ site.scope → x.position ≡ position_of site item → IsGrownBy x s.macro2s xs → AddsLocations (session_of s) (session_of (record s { macro2s = xs }))
      → AddsOwn site item (session_of s) (session_of (record s { macro2s = xs }))
  unfolding shown_item
  grown_macro2s x xs name raw kind scope position grown adds = record {
    adds = adds;
    items = λ k i loc at. inl at;
    macros = λ id loc at. elim (macros_of_macro2s s x xs grown id loc at) [
      | inl before ↦ inl before
      | inr is ↦ inr (defined_in_macro2s x id loc name raw kind scope position is)
    ];
    impls = λ i loc at. inl at;
  }

  pub own_macro2 : (x : Macro2Loc) → (name : Name) (raw : RawVisibility) → item.kind ≡ Macro2 name raw → x.container ≡ site.scope → x.position ≡ position_of site item → IsGrownBy x s.macro2s t.macro2s → t ≡ record s { macro2s = t.macro2s } → AddsLocations (session_of s) (session_of t)
      → AddsOwn site item (session_of s) (session_of t)
  own_macro2 x name raw kind scope position grown others adds =
      subst (λ u. AddsOwn site item (session_of s) (session_of u)) (sym others) (grown_macro2s x t.macro2s name raw kind scope position grown (subst (λ u. AddsLocations (session_of s) (session_of u)) others adds))

  defined_in_proc_macros : (x : ProcMacroLoc) (id : MacroId) (loc : MacroLoc) → (name : Name) (raw : RawVisibility) → item.kind ≡ Function name raw → x.container ≡ site.scope → x.position ≡ position_of site item → (n : ProcMacroId) × (id ≡ macro_of.ProcMacro n) × (loc ≡ proc_macro_loc x) → IsOwnMacro site item id loc
  defined_in_proc_macros x id loc name raw kind scope position (n, same, is) = record {
    defines = subst (DefinesMacro item.kind) (sym same) (subst (λ k. DefinesMacro k (macro_of.ProcMacro n)) (sym kind) tt);
    scope = ap (λ (l : MacroLoc). l.container) is ∙ scope;
    position = ap (λ (l : MacroLoc). l.position) is ∙ position;
  }

  grown_proc_macros : (x : ProcMacroLoc) (xs : List ProcMacroLoc) → (name : Name) (raw : RawVisibility) → item.kind ≡ Function name raw → x.container ≡ site.scope → x.position ≡ position_of site item → IsGrownBy x s.proc_macros xs → AddsLocations (session_of s) (session_of (record s { proc_macros = xs }))
      → AddsOwn site item (session_of s) (session_of (record s { proc_macros = xs }))
  unfolding shown_item
  grown_proc_macros x xs name raw kind scope position grown adds = record {
    adds = adds;
    items = λ k i loc at. inl at;
    macros = λ id loc at. elim (macros_of_proc_macros s x xs grown id loc at) [
      | inl before ↦ inl before
      | inr is ↦ inr (defined_in_proc_macros x id loc name raw kind scope position is)
    ];
    impls = λ i loc at. inl at;
  }

  pub own_proc_macro : (x : ProcMacroLoc) → (name : Name) (raw : RawVisibility) → item.kind ≡ Function name raw → x.container ≡ site.scope → x.position ≡ position_of site item → IsGrownBy x s.proc_macros t.proc_macros → t ≡ record s { proc_macros = t.proc_macros } → AddsLocations (session_of s) (session_of t)
      → AddsOwn site item (session_of s) (session_of t)
  own_proc_macro x name raw kind scope position grown others adds =
      subst (λ u. AddsOwn site item (session_of s) (session_of u)) (sym others) (grown_proc_macros x t.proc_macros name raw kind scope position grown (subst (λ u. AddsLocations (session_of s) (session_of u)) others adds))

-- The numbers of impls

impls_behind : (x y : BuiltinDeriveImplLoc) (xs : List BuiltinDeriveImplLoc) (i : ℕ) → slice_get (xs ++ x ∷ []) i ≡ Some y → (slice_get xs i ≡ Some y) ⊎ (y.adt ≡ x.adt)
impls_behind x y [] zero at = inr cc
impls_behind x y [] (suc i) at = cc
impls_behind x y (z ∷ zs) zero at = inl at
impls_behind x y (z ∷ zs) (suc i) at = impls_behind x y zs i at

impls_grown : (x y : BuiltinDeriveImplLoc) (old new : List BuiltinDeriveImplLoc) → IsGrownBy x old new → (i : ℕ) → slice_get new i ≡ Some y → (slice_get old i ≡ Some y) ⊎ (y.adt ≡ x.adt)
impls_grown x y old new (inl same) i at = inl (ap (λ l. slice_get l i) (sym same) ∙ at)
impls_grown x y old new (inr more) i at = impls_behind x y old i (ap (λ l. slice_get l i) (sym more) ∙ at)

grown_derive_impls : (s : Interner) (x : BuiltinDeriveImplLoc) (xs : List BuiltinDeriveImplLoc) → IsGrownBy x s.builtin_derive_impls xs → AddsLocations (session_of s) (session_of (record s { builtin_derive_impls = xs }))
    → AddsImpls x.adt (session_of s) (session_of (record s { builtin_derive_impls = xs }))
unfolding shown_item shown_macro
grown_derive_impls s x xs grown adds = record {
  adds = adds;
  items = λ k i loc at. inl at;
  macros = λ id loc at. inl at;
  impls = λ i loc at. impls_grown x loc s.builtin_derive_impls xs grown i at;
}

pub own_derive_impl : (s t : Interner) (x : BuiltinDeriveImplLoc) → IsGrownBy x s.builtin_derive_impls t.builtin_derive_impls → t ≡ record s { builtin_derive_impls = t.builtin_derive_impls } → AddsLocations (session_of s) (session_of t)
    → AddsImpls x.adt (session_of s) (session_of t)
own_derive_impl s t x grown others adds =
    subst (λ u. AddsImpls x.adt (session_of s) (session_of u)) (sym others) (grown_derive_impls s x t.builtin_derive_impls grown (subst (λ u. AddsLocations (session_of s) (session_of u)) others adds))
