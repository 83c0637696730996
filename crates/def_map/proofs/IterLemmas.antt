-- The rest of a list from an index on, and places in a list.
use Rattle.std.proofs.Common.{◌≡◌, ℕ, zero, suc, ◌+◌, List, [], ◌∷◌, Bool, cond, Option, Some, None, refl, sym, ap, ◌∙◌, slice_get, drop, arith}
use Rattle.std.specs.Prelude.{filter_map, map, not, position}
use Rattle.std.specs.List.{cons_option, prefix_len}
use Rattle.std.proofs.lemmas.List.{length-map}

-- an element and those after it
pub drop_at : {X : Type 0} (xs : List X) (i : ℕ) (x : X) → slice_get xs i ≡ Some x → drop i xs ≡ x ∷ drop (i + 1) xs
drop_at xs i x at = by xs i at ∙ ap (λ k. x ∷ drop k xs) (next_is i)
  where
    next_is : (i : ℕ) → suc i ≡ i + 1
    next_is i = omega arith

    by : (xs : List _) (i : ℕ) → slice_get xs i ≡ Some x → drop i xs ≡ x ∷ drop (suc i) xs
    by [] i h = cc
    by (y ∷ ys) zero h = let same : y ≡ x = cc in ap (λ z. z ∷ ys) same
    by (y ∷ ys) (suc i) h = by ys i h

-- past the end there is nothing
pub drop_end : {X : Type 0} (xs : List X) (i : ℕ) → slice_get xs i ≡ None → drop i xs ≡ []
drop_end [] zero h = refl
drop_end [] (suc i) h = refl
drop_end (y ∷ ys) zero h = cc
drop_end (y ∷ ys) (suc i) h = drop_end ys i h

-- what is found of the elements from an index on
module _ {X Y : Type 0} (h : X → Option Y) (xs : List X) (i : ℕ) where
  -- something is found of the one there
  pub found_at : (x : X) (y : Y) → slice_get xs i ≡ Some x → h x ≡ Some y → filter_map h (drop i xs) ≡ y ∷ filter_map h (drop (i + 1) xs)
  found_at x y at is = ap (filter_map h) (drop_at xs i x at) ∙ ap (λ o. cons_option o (filter_map h (drop (i + 1) xs))) is

  -- nothing is found of it
  pub passed_at : (x : X) → slice_get xs i ≡ Some x → h x ≡ None → filter_map h (drop (i + 1) xs) ≡ filter_map h (drop i xs)
  passed_at x at is = sym (ap (filter_map h) (drop_at xs i x at) ∙ ap (λ o. cons_option o (filter_map h (drop (i + 1) xs))) is)

  -- there is none
  pub none_from : slice_get xs i ≡ None → filter_map h (drop i xs) ≡ []
  none_from none = ap (filter_map h) (drop_end xs i none)

module _ {X Y : Type 0} (p : Y → Bool) (f : X → Y) where
  prefix_len-map : (q : Y → Bool) (xs : List X) → prefix_len q (map f xs) ≡ prefix_len (λ x. q (f x)) xs
  prefix_len-map q [] = refl
  prefix_len-map q (x ∷ xs) = ap (λ n. cond (q (f x)) (1 + n) 0) (prefix_len-map q xs)

  -- the first that passes a test among what a function gives
  pub position-map : (xs : List X) → position p (map f xs) ≡ position (λ x. p (f x)) xs
  position-map xs = rw (prefix_len-map (λ y. not (p y)) xs, length-map) refl
