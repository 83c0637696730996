-- Lists by module, after one row or one list that is looked up has changed.
use Rattle.std.proofs.Common.{◌≡◌, ◌∙◌, ap, sym, refl, arith, inl, inr, ℕ, suc, zero, ◌<◌, ◌==◌, Bool, true, false, cond, ◌&&◌, List, [], ◌∷◌, ◌++◌, length, set, get_or, is_some, Option, Some, None, Vec, slice_get}
use Rattle.std.proofs.lemmas.Bool.{cases_Bool, eqb-true, eq-eqb, false≢true}
use Rattle.std.specs.Global.{Global}
use Rattle.std.proofs.lemmas.Option.{slice_get_cases, slice_get_read, get_or_from_slice_get}
use Rattle.indexmap.specs.IndexMap.{IndexMap, get}
use Rattle.std.specs.Option.{option_eq, option_map, option_map_or, option_and_then}
use Rattle.tree_ids.specs.declared.ids.BlockId.{BlockId}
use Rattle.def_ids.specs.declared.ids.MapId.{MapId}
use Rattle.def_ids.specs.declared.ids.ModuleId.{ModuleId}
use Rattle.def_ids.specs.Ids.{is_same_block, is_same_map, is_same_module}
use Rattle.def_bindings.specs.Content.{listed_as}
use Rattle.def_bindings.specs.IdLaws.{cases_module, same_map_equal, same_map_itself}
use Rattle.def_tables.specs.Lists.{lists_in, row_in, row_items, with_row}
use Rattle.def_tables.proofs.ByModuleLemmas.{ChangesRow, listed_as-same}

-- one more row without a list
padded : {K : Type 0} (rows : List (Option (Vec K Global))) (n : ℕ) → option_and_then row_items (slice_get (rows ++ None ∷ []) n) ≡ option_and_then row_items (slice_get rows n)
padded [] zero = refl
padded [] (suc n) = refl
padded (row ∷ rows) zero = refl
padded (row ∷ rows) (suc n) = padded rows n

pub rows-padded : {K : Type 0} (map : MapId) (rows : List (Option (Vec K Global))) → row_in map (rows ++ None ∷ []) ≡ row_in map rows
rows-padded map rows = λ i m. ap (λ r. cond (is_same_map m.map map) r None) (padded rows m.index) i

-- where there are no rows, no module has one
pub rows-none : {K : Type 0} (map : MapId) (m : ModuleId) → row_in {K = K} map [] m ≡ None
rows-none {K = K} map m = by_map (is_same_map m.map map)
  where
    by_map : (b : Bool) → cond {A = Option (List K)} b None None ≡ None
    by_map true = refl
    by_map false = refl

set-here : {X : Type 0} (xs : List X) (i : ℕ) (x : X) → i < length xs → slice_get (set xs i x) i ≡ Some x
set-here [] i x l = let none : ⊥ = omega arith in absurd none
set-here (y ∷ ys) zero x l = refl
set-here (y ∷ ys) (suc i) x l = set-here ys i x (omega arith)

set-elsewhere : {X : Type 0} (xs : List X) (i j : ℕ) (x : X) → (i ≡ j → ⊥) → slice_get (set xs i x) j ≡ slice_get xs j
set-elsewhere [] i j x n = refl
set-elsewhere (y ∷ ys) zero zero x n = absurd (n refl)
set-elsewhere (y ∷ ys) zero (suc j) x n = refl
set-elsewhere (y ∷ ys) (suc i) zero x n = refl
set-elsewhere (y ∷ ys) (suc i) (suc j) x n = set-elsewhere ys i j x (λ e. n (ap suc e))

at-set : {X : Type 0} (xs : List X) (i j : ℕ) (x : X) → i < length xs → slice_get (set xs i x) j ≡ cond (i == j) (Some x) (slice_get xs j)
at-set xs i j x l =
    elim (cases_Bool (i == j)) [
      | inl e ↦ rw e (ap (slice_get (set xs i x)) (sym (eqb-true i j e)) ∙ set-here xs i x l)
      | inr e ↦ rw e (set-elsewhere xs i j x (λ same. false≢true (sym e ∙ eq-eqb i j same)))
    ]

same_map_symmetric : (a b : MapId) → is_same_map a b ≡ is_same_map b a
same_map_symmetric a b =
    elim (cases_Bool (is_same_map a b)) [
      | inl e ↦ e ∙ sym (ap (λ m. is_same_map m a) (sym (same_map_equal a b e)) ∙ same_map_itself a)
      | inr e ↦ elim (cases_Bool (is_same_map b a)) [
        | inl r ↦ absurd (false≢true (sym e ∙ ap (λ m. is_same_map m b) (sym (same_map_equal b a r)) ∙ same_map_itself b))
        | inr r ↦ e ∙ sym r
      ]
    ]

-- the row of a module is set
pub row-set : {K : Type 0} (map : MapId) (rows : List (Option (Vec K Global))) (m : ModuleId) (row : Option (Vec K Global)) (items : List K)
    → is_same_map m.map map ≡ true → m.index < length rows → row_items row ≡ Some items
    → ChangesRow (row_in map rows) (row_in map (set rows m.index row)) m items
row-set map rows m row items own inside is q =
    ap (λ r. cond (is_same_map q.map map) (option_and_then row_items r) None) (at-set rows m.index q.index row inside)
    ∙ ap (λ b. cond b (option_and_then row_items (cond (m.index == q.index) (Some row) (slice_get rows q.index))) None) here
    ∙ by_tests (is_same_map m.map q.map) (m.index == q.index)
    ∙ ap (λ b. cond (is_same_module m q) (Some items) (cond b (option_and_then row_items (slice_get rows q.index)) None)) (sym here)
  where
    here : is_same_map q.map map ≡ is_same_map m.map q.map
    here = ap (is_same_map q.map) (sym (same_map_equal m.map map own)) ∙ same_map_symmetric q.map m.map

    by_tests : (b e : Bool) → cond b (option_and_then row_items (cond e (Some row) (slice_get rows q.index))) None ≡ cond (b && e) (Some items) (cond b (option_and_then row_items (slice_get rows q.index)) None)
    by_tests true true = is
    by_tests true false = refl
    by_tests false e = refl

module _ {K : Type 0} (rows : ModuleId → Option (List K)) (others : ModuleId → List K) (at : ModuleId) where
  -- the list of a row is set
  pub row-listed : (new : ModuleId → Option (List K)) (items : List K) → ChangesRow rows new at items
      → with_row new others ≡ listed_as (with_row rows others) at items
  row-listed new items after = λ i q. listed q i
    where
      listed : (q : ModuleId) → with_row new others q ≡ listed_as (with_row rows others) at items q
      listed q = elim (cases_module at q) [
        | inl e ↦ ap (λ r. option_map_or (λ xs. xs) r (others q)) (after q) ∙ rw e.1
        | inr e ↦ ap (λ r. option_map_or (λ xs. xs) r (others q)) (after q) ∙ rw e
      ]

  -- a list that is looked up is changed, of a module without a row
  pub other-listed : (new : ModuleId → List K) (items : List K) → rows at ≡ None → new ≡ listed_as others at items
      → with_row rows new ≡ listed_as (with_row rows others) at items
  other-listed new items none after = λ i q. listed q i
    where
      listed : (q : ModuleId) → with_row rows new q ≡ listed_as (with_row rows others) at items q
      listed q = elim (cases_module at q) [
        | inl e ↦ ap (λ o. option_map_or (λ xs. xs) (rows q) (o q)) after ∙ ap (λ m. option_map_or (λ xs. xs) (rows m) (listed_as others at items q)) (sym e.0) ∙ rw (none, e.1)
        | inr e ↦ ap (λ o. option_map_or (λ xs. xs) (rows q) (o q)) after ∙ rw e
      ]

  -- by a function of what it was
  pub other-changed : (new : ModuleId → List K) (f : List K → List K) → rows at ≡ None → new ≡ listed_as others at (f (others at))
      → with_row rows new ≡ listed_as (with_row rows others) at (f (with_row rows others at))
  other-changed new f none after =
      other-listed new (f (others at)) none after
      ∙ ap (λ r. listed_as (with_row rows others) at (f (option_map_or (λ xs. xs) r (others at)))) (sym none)

  -- a list is begun in a row, by rows that are those of before
  pub begun-row : (was new : ModuleId → Option (List K)) (before : ModuleId → List K) (items list : List K) → ChangesRow rows new at items → items ≡ list → rows ≡ was → others ≡ before
      → with_row new others ≡ listed_as (with_row was before) at list
  begun-row was new before items list after p q r =
      row-listed new items after
      ∙ ap (listed_as (with_row rows others) at) p
      ∙ ap (λ x. listed_as (with_row x others) at list) q
      ∙ ap (λ x. listed_as (with_row was x) at list) r

  -- or among those that are looked up
  pub begun-other : (was : ModuleId → Option (List K)) (before new : ModuleId → List K) (items list : List K) → was at ≡ None → new ≡ listed_as others at items → items ≡ list → rows ≡ was → others ≡ before
      → with_row rows new ≡ listed_as (with_row was before) at list
  begun-other was before new items list none after p q r =
      other-listed new items (ap (λ x. x at) q ∙ none) after
      ∙ ap (listed_as (with_row rows others) at) p
      ∙ ap (λ x. listed_as (with_row x others) at list) q
      ∙ ap (λ x. listed_as (with_row was x) at list) r

-- what there is stays, part by part
pub both-same : {K : Type 0} (rows was : ModuleId → Option (List K)) (others before : ModuleId → List K) → rows ≡ was → others ≡ before → with_row rows others ≡ with_row was before
both-same rows was others before p q = ap (λ x. with_row x others) p ∙ ap (with_row was) q

-- whether there is a row, by the list that was found
pub is-row : {X Y : Type 0} (f : X → Y) (o : Option X) (row : Option Y) (b : Bool) → option_map f o ≡ row → b ≡ is_some o → is_some row ≡ b
is-row {X = X} f o row b e t = ap (λ r. is_some r) (sym e) ∙ same o ∙ sym t
  where
    same : (o : Option X) → is_some (option_map f o) ≡ is_some o
    same None = refl
    same (Some x) = refl

-- the row of a module that has one
module _ {K : Type 0} (map : MapId) (rows : List (Option (Vec K Global))) (m : ModuleId) (there : is_some (row_in map rows m) ≡ true) (d : Option (Vec K Global)) where
  abbrev Holds : Type 0
  Holds = (is_same_map m.map map ≡ true) × (m.index < length rows) × (row_in map rows m ≡ row_items (get_or rows m.index d))

  pub held : Holds
  held = by_map (is_same_map m.map map) refl
    where
      by_map : (b : Bool) → is_same_map m.map map ≡ b → Holds
      by_map false e = let no : is_some (row_in map rows m) ≡ false = rw e refl in absurd (false≢true (sym no ∙ there))
      by_map true e =
          elim (slice_get_cases rows m.index).1 [
            | inl (x, i, at, is) ↦ (e, i, rw (e, at) (ap row_items (sym (get_or_from_slice_get rows m.index x d at))))
            | inr (i, at) ↦ let no : is_some (row_in map rows m) ≡ false = rw (e, at) refl in absurd (false≢true (sym no ∙ there))
          ]

  -- its list is written
  pub row-written : (others : ModuleId → List K) (row : Option (Vec K Global)) (items : List K) → row_items row ≡ Some items
      → with_row (row_in map (set rows m.index row)) others ≡ listed_as (with_row (row_in map rows) others) m items
  row-written others row items is = row-listed (row_in map rows) others m (row_in map (set rows m.index row)) items (row-set map rows m row items held.0 held.1 is)

  -- by a function of what it was
  pub row-changed : (others : ModuleId → List K) (row : Option (Vec K Global)) (f : List K → List K) → row_items row ≡ option_map f (row_items (get_or rows m.index d))
      → with_row (row_in map (set rows m.index row)) others ≡ listed_as (with_row (row_in map rows) others) m (f (with_row (row_in map rows) others m))
  row-changed others row f is = by_row (row_items (get_or rows m.index d)) refl
    where
      by_row : (o : Option (List K)) → row_items (get_or rows m.index d) ≡ o
          → with_row (row_in map (set rows m.index row)) others ≡ listed_as (with_row (row_in map rows) others) m (f (with_row (row_in map rows) others m))
      by_row None e = let no : is_some (row_in map rows m) ≡ false = ap (λ o. is_some o) (held.2 ∙ e) in absurd (false≢true (sym no ∙ there))
      by_row (Some items) e =
          row-written others row (f items) (is ∙ ap (option_map f) e)
          ∙ ap (λ o. listed_as (with_row (row_in map rows) others) m (f (option_map_or (λ xs. xs) o (others m)))) (sym (held.2 ∙ e))

  pub row-kept : (others : ModuleId → List K) (row : Option (Vec K Global)) → row_items row ≡ row_items (get_or rows m.index d)
      → with_row (row_in map (set rows m.index row)) others ≡ with_row (row_in map rows) others
  row-kept others row is =
      row-changed others row (λ xs. xs) (is ∙ sym (itself (row_items (get_or rows m.index d))))
      ∙ listed_as-same (with_row (row_in map rows) others) m
    where
      itself : (o : Option (List K)) → option_map (λ xs. xs) o ≡ o
      itself None = refl
      itself (Some x) = refl

-- maps as the code compares them
same_block : (a b : Option BlockId) → option_eq (λ x y. x.0 == y.0) a b ≡ is_same_block a b
same_block None None = refl
same_block None (Some b) = refl
same_block (Some a) None = refl
same_block (Some a) (Some b) = refl

pub same_map : (a b : MapId) → is_same_map a b ≡ ((a.krate.0 == b.krate.0) && option_eq (λ x y. x.0 == y.0) a.block b.block)
same_map a b = ap (λ t. (a.krate.0 == b.krate.0) && t) (sym (same_block a.block b.block))

-- what is in a module's row, where it is looked for
module _ {K : Type 0} (map : MapId) (rows : List (Option (Vec K Global))) (m : ModuleId) where
  pub no-row : is_same_map m.map map ≡ false → None ≡ row_in map rows m
  no-row apart = ap (λ b. cond b (option_and_then row_items (slice_get rows m.index)) None) (sym apart)

  pub row-read : (read : List (Option (Vec K Global))) (row : Option (Vec K Global)) → is_same_map m.map map ≡ true → read ≡ rows → m.index < length read → row ≡ get_or read m.index row
      → row_items row ≡ row_in map rows m
  row-read read row own is inside there =
      sym (ap (λ b. cond b (option_and_then row_items (slice_get rows m.index)) None) own
      ∙ ap (λ rs. option_and_then row_items (slice_get rs m.index)) (sym is)
      ∙ ap (option_and_then row_items) (slice_get_read read (length read) m.index row refl inside there))

-- a module without a row, and with nothing among those that are looked up, has no list
pub no-list : {K S : Type 0} (rows : ModuleId → Option (List K)) (others : IndexMap ModuleId (Vec K Global) S) (at : ModuleId) → rows at ≡ None → get is_same_module others at ≡ None
    → with_row rows (lists_in others) at ≡ []
no-list rows others at none nothing =
    ap (λ r. option_map_or (λ xs. xs) r (lists_in others at)) none ∙ ap (λ o. option_map_or (λ v. v.items) o []) nothing
