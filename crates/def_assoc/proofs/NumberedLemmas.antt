-- Items of a trait or an impl that get their numbers one after the other.
use Rattle.std.proofs.Common.{◌≡◌, ◌⊎◌, ◌<◌, ◌+◌, ℕ, zero, suc, List, [], ◌∷◌, ◌++◌, length, take, get_or, Some, inl, inr, option_map, slice_get, sym, ap, subst, ◌∙◌}
use Rattle.std.proofs.lemmas.List.{take_more}
use Rattle.std.proofs.lemmas.List.Elements.{Contains-get_or}
use Rattle.std.specs.List.{AllZip, Contains}
use Rattle.tree_ids.specs.declared.name.Name.{Name}
use Rattle.item_tree.specs.Numbering.{IsGrownBy}
use Rattle.def_ids.specs.declared.ids.ItemContainerId.{ItemContainerId}
use Rattle.def_ids.specs.declared.locs.ConstLoc.{ConstLoc}
use Rattle.def_ids.specs.declared.locs.FunctionLoc.{FunctionLoc}
use Rattle.def_ids.specs.declared.locs.TypeAliasLoc.{TypeAliasLoc}
use Rattle.def_interner.specs.Session.{Session, AddsLocations, ItemKind, ItemLoc, in_container, session_of, shown_item, shown_macro, FunctionItem, ConstItem, TypeAliasItem}
use Rattle.def_interner.specs.SessionLaws.{adds_trans}
use Rattle.def_interner.specs.declared.interner.Interner.{Interner}
use Rattle.def_assoc.specs.declared.assoc.AssocItemId.{AssocItemId}
use Rattle.def_assoc.specs.declared.assoc.AssocItemId.TheVariants as id
use Rattle.def_assoc.specs.declared.numbered.NamedItem.{NamedItem}
use Rattle.def_assoc.specs.declared.numbered.NamedKind.{NamedKind}
use Rattle.def_assoc.specs.declared.numbered.NamedKind.TheVariants.{Function, Const, TypeAlias}
use Rattle.def_assoc.specs.Numbered.{AddsNamed, AddsOne, IsLocOf, IsLocated, IsNumbered, item_kind, loc_of}

-- One location

-- what is shown at a place of a list that has one element more
shown_behind : {A B : Type 0} (shown : A → B) (x : A) (xs : List A) (i : ℕ) (b : B) → option_map shown (slice_get (xs ++ x ∷ []) i) ≡ Some b → (option_map shown (slice_get xs i) ≡ Some b) ⊎ (b ≡ shown x)
shown_behind shown x [] zero b at = inr cc
shown_behind shown x [] (suc i) b at = cc
shown_behind shown x (y ∷ ys) zero b at = inl at
shown_behind shown x (y ∷ ys) (suc i) b at = shown_behind shown x ys i b at

-- and of one that has grown by it
shown_grown : {A B : Type 0} (shown : A → B) (x : A) (old new : List A) → IsGrownBy x old new → (i : ℕ) (b : B) → option_map shown (slice_get new i) ≡ Some b → (option_map shown (slice_get old i) ≡ Some b) ⊎ (b ≡ shown x)
shown_grown shown x old new (inl same) i b at = inl (ap (λ l. option_map shown (slice_get l i)) (sym same) ∙ at)
shown_grown shown x old new (inr more) i b at = shown_behind shown x old i b (ap (λ l. option_map shown (slice_get l i)) (sym more) ∙ at)

-- the location of an item alone is new, of one kind
abbrev is_this : {P : Type 0} (container : ItemContainerId) (item : NamedItem) (kind : ItemKind) (loc : ItemLoc) → kind ≡ item_kind item.kind → P ⊎ (loc ≡ loc_of container item) → P ⊎ IsLocOf container item kind loc
is_this container item kind loc same (inl before) = inl before
is_this container item kind loc same (inr is) = inr (same, is)

module _ (container : ItemContainerId) (item : NamedItem) (s t : Interner) where
  functions_grown : (xs : List FunctionLoc) → FunctionItem ≡ item_kind item.kind → IsGrownBy (record { container = container; position = item.position }) s.functions xs
      → (k : ItemKind) (i : ℕ) (loc : ItemLoc) → shown_item (record s { functions = xs }) k i ≡ Some loc → (shown_item s k i ≡ Some loc) ⊎ IsLocOf container item k loc
  unfolding shown_item
  functions_grown xs same grown FunctionItem i loc at = is_this container item FunctionItem loc same (shown_grown (λ (l : FunctionLoc). in_container l.container l.position) (record { container = container; position = item.position }) s.functions xs grown i loc at)
  functions_grown xs same grown _ i loc at = inl at

  with_functions : (xs : List FunctionLoc) → FunctionItem ≡ item_kind item.kind → IsGrownBy (record { container = container; position = item.position }) s.functions xs
      → AddsLocations (session_of s) (session_of (record s { functions = xs })) → AddsOne container item (session_of s) (session_of (record s { functions = xs }))
  unfolding shown_macro
  with_functions xs same grown adds = record { adds = adds; items = functions_grown xs same grown; macros = λ id loc at. inl at; impls = λ n loc at. inl at }

  -- a function's is added
  pub adds_function : FunctionItem ≡ item_kind item.kind → IsGrownBy (record { container = container; position = item.position }) s.functions t.functions → t ≡ record s { functions = t.functions } → AddsLocations (session_of s) (session_of t)
      → AddsOne container item (session_of s) (session_of t)
  adds_function same grown others adds =
      subst (λ u. AddsOne container item (session_of s) (session_of u)) (sym others) (with_functions t.functions same grown (subst (λ u. AddsLocations (session_of s) (session_of u)) others adds))

  consts_grown : (xs : List ConstLoc) → ConstItem ≡ item_kind item.kind → IsGrownBy (record { container = container; position = item.position }) s.consts xs
      → (k : ItemKind) (i : ℕ) (loc : ItemLoc) → shown_item (record s { consts = xs }) k i ≡ Some loc → (shown_item s k i ≡ Some loc) ⊎ IsLocOf container item k loc
  unfolding shown_item
  consts_grown xs same grown ConstItem i loc at = is_this container item ConstItem loc same (shown_grown (λ (l : ConstLoc). in_container l.container l.position) (record { container = container; position = item.position }) s.consts xs grown i loc at)
  consts_grown xs same grown _ i loc at = inl at

  with_consts : (xs : List ConstLoc) → ConstItem ≡ item_kind item.kind → IsGrownBy (record { container = container; position = item.position }) s.consts xs
      → AddsLocations (session_of s) (session_of (record s { consts = xs })) → AddsOne container item (session_of s) (session_of (record s { consts = xs }))
  unfolding shown_macro
  with_consts xs same grown adds = record { adds = adds; items = consts_grown xs same grown; macros = λ id loc at. inl at; impls = λ n loc at. inl at }

  -- a constant's is
  pub adds_const : ConstItem ≡ item_kind item.kind → IsGrownBy (record { container = container; position = item.position }) s.consts t.consts → t ≡ record s { consts = t.consts } → AddsLocations (session_of s) (session_of t)
      → AddsOne container item (session_of s) (session_of t)
  adds_const same grown others adds =
      subst (λ u. AddsOne container item (session_of s) (session_of u)) (sym others) (with_consts t.consts same grown (subst (λ u. AddsLocations (session_of s) (session_of u)) others adds))

  aliases_grown : (xs : List TypeAliasLoc) → TypeAliasItem ≡ item_kind item.kind → IsGrownBy (record { container = container; position = item.position }) s.type_aliases xs
      → (k : ItemKind) (i : ℕ) (loc : ItemLoc) → shown_item (record s { type_aliases = xs }) k i ≡ Some loc → (shown_item s k i ≡ Some loc) ⊎ IsLocOf container item k loc
  unfolding shown_item
  aliases_grown xs same grown TypeAliasItem i loc at = is_this container item TypeAliasItem loc same (shown_grown (λ (l : TypeAliasLoc). in_container l.container l.position) (record { container = container; position = item.position }) s.type_aliases xs grown i loc at)
  aliases_grown xs same grown _ i loc at = inl at

  with_aliases : (xs : List TypeAliasLoc) → TypeAliasItem ≡ item_kind item.kind → IsGrownBy (record { container = container; position = item.position }) s.type_aliases xs
      → AddsLocations (session_of s) (session_of (record s { type_aliases = xs })) → AddsOne container item (session_of s) (session_of (record s { type_aliases = xs }))
  unfolding shown_macro
  with_aliases xs same grown adds = record { adds = adds; items = aliases_grown xs same grown; macros = λ id loc at. inl at; impls = λ n loc at. inl at }

  -- a type alias's is
  pub adds_alias : TypeAliasItem ≡ item_kind item.kind → IsGrownBy (record { container = container; position = item.position }) s.type_aliases t.type_aliases → t ≡ record s { type_aliases = t.type_aliases } → AddsLocations (session_of s) (session_of t)
      → AddsOne container item (session_of s) (session_of t)
  adds_alias same grown others adds =
      subst (λ u. AddsOne container item (session_of s) (session_of u)) (sym others) (with_aliases t.type_aliases same grown (subst (λ u. AddsLocations (session_of s) (session_of u)) others adds))

-- Many locations

module _ (container : ItemContainerId) (named : List NamedItem) where
  -- after locations of these items, that of one more of them
  pub named_more : (a b c : Session) (item : NamedItem) → Contains named item → AddsNamed container named a b → AddsOne container item b c → AddsNamed container named a c
  named_more a b c item among first second = record {
    adds = adds_trans a b c first.adds second.adds;
    items = λ kind n loc at. elim (second.items kind n loc at) [
      | inl before ↦ first.items kind n loc before
      | inr own ↦ inr (item, among, own)
    ];
    macros = λ id loc at. elim (second.macros id loc at) [
      | inl before ↦ first.macros id loc before
      | inr none ↦ inr none
    ];
    impls = λ n loc at. elim (second.impls n loc at) [
      | inl before ↦ first.impls n loc before
      | inr none ↦ inr none
    ];
  }

  -- so it is of the next item
  pub named_next : (a b c : Session) (i : ℕ) (d : NamedItem) → i < length named → AddsNamed container named a b → AddsOne container (get_or named i d) b c → AddsNamed container named a c
  named_next a b c i d within = named_more a b c (get_or named i d) (Contains-get_or named i d within)

-- a location that is there stays
located_stays : (old new : Session) → AddsLocations old new → (kind : NamedKind) (loc : ItemLoc) (n : AssocItemId) → IsLocated old kind loc n → IsLocated new kind loc n
located_stays old new adds Function loc (id.Function n) at = adds.grows.item FunctionItem n.0 loc at
located_stays old new adds Const loc (id.Const n) at = adds.grows.item ConstItem n.0 loc at
located_stays old new adds TypeAlias loc (id.TypeAlias n) at = adds.grows.item TypeAliasItem n.0 loc at
located_stays old new adds Function loc (id.Const n) none = absurd none
located_stays old new adds Function loc (id.TypeAlias n) none = absurd none
located_stays old new adds Const loc (id.Function n) none = absurd none
located_stays old new adds Const loc (id.TypeAlias n) none = absurd none
located_stays old new adds TypeAlias loc (id.Function n) none = absurd none
located_stays old new adds TypeAlias loc (id.Const n) none = absurd none

-- so do items with numbers, and one more is added behind them
numbered_push : (container : ItemContainerId) (old new : Session) → AddsLocations old new → (named : List NamedItem) (items : List (Name × AssocItemId)) (item : NamedItem) (numbered : Name × AssocItemId)
    → AllZip (IsNumbered old container) named items → IsNumbered new container item numbered → AllZip (IsNumbered new container) (named ++ item ∷ []) (items ++ numbered ∷ [])
numbered_push container old new adds [] [] item numbered all here = (here, tt)
numbered_push container old new adds [] (y ∷ ys) item numbered all here = absurd all
numbered_push container old new adds (x ∷ xs) [] item numbered all here = absurd all
numbered_push container old new adds (x ∷ xs) (y ∷ ys) item numbered all here =
    ((all.0.0, located_stays old new adds x.kind (loc_of container x) y.1 all.0.1), numbered_push container old new adds xs ys item numbered all.1 here)

-- the next item has its number
pub numbered_next : (container : ItemContainerId) (old new : Session) (named : List NamedItem) (i : ℕ) (d : NamedItem) (items more : List (Name × AssocItemId)) (n : AssocItemId) → i < length named
    → AddsOne container (get_or named i d) old new → AllZip (IsNumbered old container) (take i named) items → IsNumbered new container (get_or named i d) ((get_or named i d).name, n)
    → more ≡ items ++ ((get_or named i d).name, n) ∷ [] → AllZip (IsNumbered new container) (take (i + 1) named) more
numbered_next container old new named i d items more n within adds all here pushed =
    subst (λ ys. AllZip (IsNumbered new container) (take (i + 1) named) ys) (sym pushed)
    (subst (λ xs. AllZip (IsNumbered new container) xs (items ++ ((get_or named i d).name, n) ∷ [])) (sym (take_more named i d within))
    (numbered_push container old new adds.adds (take i named) items (get_or named i d) ((get_or named i d).name, n) all here))
