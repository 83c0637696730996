-- Sessions of the worked rows, which grow as items are visited: each visit adds the number of its own item, and that of the macro which the item defines.
use Rattle.std.proofs.Common.{◌≡◌, ◌⊎◌, inl, inr, ℕ, Bool, true, false, cond, ◌&&◌, ◌==◌, Option, Some, None, refl, sym, subst, ap, ◌∙◌}
use Rattle.std.proofs.lemmas.Bool.{and_parts, eqb-true}
use Rattle.item_tree.specs.declared.items.ItemNode.{ItemNode}
use Rattle.def_ids.specs.declared.ids.MacroId.{MacroId}
use Rattle.def_ids.specs.Equality.{macro_eq}
use Rattle.def_interner.specs.Session.{Session, ItemKind, ItemLoc, MacroLoc}
use Rattle.def_interner.specs.Session.{FunctionItem, StructItem, UnionItem, EnumItem, ConstItem, StaticItem, TraitItem, TypeAliasItem, ImplItem, UseItem, ExternCrateItem, ExternBlockItem}
use Rattle.def_bindings.specs.DefLaws.{macro-eq}
use Rattle.def_rules.specs.Items.{loc_of, position_of}
use Rattle.def_rules.specs.Locations.{AddsOwn, DefinesMacro, IsOwnItem, IsOwnMacro, number_kind}
use Rattle.def_laws.proofs.LocationsLaws.{own_refl}
use Rattle.def_rules.specs.State.{Site}

-- a session with nothing
abbrev pub no_session : Session
no_session = record { text = λ name. None; item = λ kind number. None; macro_at = λ id. None; derive_impl = λ id. None }

-- whether two kinds of items are one
abbrev pub is_kind : ItemKind → ItemKind → Bool
is_kind FunctionItem FunctionItem = true
is_kind StructItem StructItem = true
is_kind UnionItem UnionItem = true
is_kind EnumItem EnumItem = true
is_kind ConstItem ConstItem = true
is_kind StaticItem StaticItem = true
is_kind TraitItem TraitItem = true
is_kind TypeAliasItem TypeAliasItem = true
is_kind ImplItem ImplItem = true
is_kind UseItem UseItem = true
is_kind ExternCrateItem ExternCrateItem = true
is_kind ExternBlockItem ExternBlockItem = true
is_kind _ _ = false

-- a session in which an item of this kind has this number
abbrev pub with_item : ItemKind → ℕ → ItemLoc → Session → Session
with_item kind n loc s = record s { item = λ k i. cond (is_kind kind k && (n == i)) (Some loc) (s.item k i) }

-- one in which a macro has this number
abbrev pub with_macro : MacroId → MacroLoc → Session → Session
with_macro id loc s = record s { macro_at = λ m. cond (macro_eq id m) (Some loc) (s.macro_at m) }

-- a visit may add nothing
pub unchanged : {site : Site} {item : ItemNode} (session : Session) → AddsOwn site item session session
unchanged {site} {item} session = own_refl site item session

kind-eq : (a b : ItemKind) → is_kind a b ≡ true → a ≡ b
kind-eq FunctionItem FunctionItem h = refl
kind-eq StructItem StructItem h = refl
kind-eq UnionItem UnionItem h = refl
kind-eq EnumItem EnumItem h = refl
kind-eq ConstItem ConstItem h = refl
kind-eq StaticItem StaticItem h = refl
kind-eq TraitItem TraitItem h = refl
kind-eq TypeAliasItem TypeAliasItem h = refl
kind-eq ImplItem ImplItem h = refl
kind-eq UseItem UseItem h = refl
kind-eq ExternCrateItem ExternCrateItem h = refl
kind-eq ExternBlockItem ExternBlockItem h = refl
kind-eq _ _ h = cc

-- where a table is set at one place, there is what was there, or what was set
at_or_set : {B : Type 0} (here : Bool) (set : B) (before : Option B) (b : B) → cond here (Some set) before ≡ Some b → (before ≡ Some b) ⊎ ((here ≡ true) × (b ≡ set))
at_or_set false set before b at = inl at
at_or_set true set before b at = inr (refl, cc)

-- what was there still is, if there was nothing at that place
still_at : {B : Type 0} (here : Bool) (set : B) (before : Option B) (b : B) → (here ≡ true → before ≡ None) → before ≡ Some b → cond here (Some set) before ≡ Some b
still_at false set before b free at = at
still_at true set before b free at = let none = free refl in absurd cc

-- a visit adds the number of its item
pub gets_number : {site : Site} {item : ItemNode} {s : Session} (kind : ItemKind) (n : ℕ) → number_kind item.kind ≡ Some kind → s.item kind n ≡ None → AddsOwn site item s (with_item kind n (loc_of site kind item) s)
gets_number {site} {item} {s} kind n numbered free = record {
  adds = record {
    text = refl;
    grows = record {
      text = λ name t at. at;
      item = λ k i loc at. still_at (is_kind kind k && (n == i)) (loc_of site kind item) (s.item k i) loc (is_free k i) at;
      macro_at = λ id loc at. at;
      derive_impl = λ i loc at. at;
    };
  };
  items = λ k i loc at. elim (at_or_set (is_kind kind k && (n == i)) (loc_of site kind item) (s.item k i) loc at) [
    | inl before ↦ inl before
    | inr set ↦ inr (is_own k i loc set.0 set.1)
  ];
  macros = λ id loc at. inl at;
  impls = λ i loc at. inl at;
}
  where
    same_kind : (k : ItemKind) (i : ℕ) → (is_kind kind k && (n == i)) ≡ true → kind ≡ k
    same_kind k i here = kind-eq kind k (and_parts (is_kind kind k) (n == i) here).0

    is_free : (k : ItemKind) (i : ℕ) → (is_kind kind k && (n == i)) ≡ true → s.item k i ≡ None
    is_free k i here = ap (λ x. s.item x i) (sym (same_kind k i here)) ∙ (ap (λ x. s.item kind x) (sym (eqb-true n i (and_parts (is_kind kind k) (n == i) here).1)) ∙ free)

    is_own : (k : ItemKind) (i : ℕ) (loc : ItemLoc) → (is_kind kind k && (n == i)) ≡ true → loc ≡ loc_of site kind item → IsOwnItem site item k loc
    is_own k i loc here is = record { numbered = numbered ∙ ap (λ x. Some x) (same_kind k i here); is = is ∙ ap (λ x. loc_of site x item) (same_kind k i here) }

-- and that of the macro which the item defines
pub gets_macro : {site : Site} {item : ItemNode} {s : Session} (id : MacroId) (loc : MacroLoc) → DefinesMacro item.kind id → loc.container ≡ site.scope → loc.position ≡ position_of site item → s.macro_at id ≡ None
    → AddsOwn site item s (with_macro id loc s)
gets_macro {site} {item} {s} id loc defines scope position free = record {
  adds = record {
    text = refl;
    grows = record {
      text = λ name t at. at;
      item = λ k i l at. at;
      macro_at = λ m l at. still_at (macro_eq id m) loc (s.macro_at m) l (λ here. ap s.macro_at (sym (macro-eq id m here)) ∙ free) at;
      derive_impl = λ i l at. at;
    };
  };
  items = λ k i l at. inl at;
  macros = λ m l at. elim (at_or_set (macro_eq id m) loc (s.macro_at m) l at) [
    | inl before ↦ inl before
    | inr set ↦ inr (is_own m l set.0 set.1)
  ];
  impls = λ i l at. inl at;
}
  where
    is_own : (m : MacroId) (l : MacroLoc) → macro_eq id m ≡ true → l ≡ loc → IsOwnMacro site item m l
    is_own m l here is = record {
      defines = subst (DefinesMacro item.kind) (macro-eq id m here) defines;
      scope = ap (λ (x : MacroLoc). x.container) is ∙ scope;
      position = ap (λ (x : MacroLoc). x.position) is ∙ position;
    }
