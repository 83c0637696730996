-- Elements that are gathered one by one.
use Rattle.std.proofs.Common.{◌≡◌, ◌+◌, ◌<◌, ◌≤◌, ℕ, get_or, zero, suc, map, take, drop, length, List, [], ◌∷◌, ◌++◌, Some, None, refl, sym, ap, ◌∙◌, append-nil, append_assoc, add-one}
use Rattle.std.specs.Prelude.{slice_get, Option, Result, Ok, Err, OnOk}
use Rattle.std.specs.List.{flat_map}
use Rattle.std.proofs.lemmas.List.{at_drop_all, at_drop_more, map-append}
use Rattle.std.proofs.lemmas.Option.{slice_get_within}

-- the list from an index on, at an element
pub from_index : {X : Type 0} (xs : List X) (k : ℕ) (x : X) → Some x ≡ slice_get xs k → drop k xs ≡ x ∷ drop (suc k) xs
from_index [] k x h = cc
from_index (y ∷ xs) zero x h = let e : x ≡ y = cc in ap (λ z. z ∷ xs) (sym e)
from_index (y ∷ xs) (suc k) x h = from_index xs k x h

-- and past its end
pub past_index : {X : Type 0} (xs : List X) (k : ℕ) → None ≡ slice_get xs k → drop k xs ≡ []
past_index [] zero h = refl
past_index [] (suc k) h = refl
past_index (y ∷ xs) zero h = cc
past_index (y ∷ xs) (suc k) h = past_index xs k h

-- an element that is found stands within the list
pub within_index : {X : Type 0} (xs : List X) (k : ℕ) (x : X) → Some x ≡ slice_get xs k → k < length xs
within_index xs k x h = slice_get_within xs k x (sym h)

module _ {X Y : Type 0} (f : X → List Y) (xs : List X) where
  -- one element more was gathered
  pub gathered_more : (k : ℕ) (x : X) (acc acc' whole : List Y) → Some x ≡ slice_get xs k → acc' ≡ acc ++ f x → acc ++ flat_map f (drop k xs) ≡ whole → acc' ++ flat_map f (drop (k + 1) xs) ≡ whole
  gathered_more k x acc acc' whole at more so_far =
      ap (λ l. l ++ flat_map f (drop (k + 1) xs)) more
      ∙ append_assoc acc (f x) (flat_map f (drop (k + 1) xs))
      ∙ ap (λ n. acc ++ (f x ++ flat_map f (drop n xs))) (add-one k)
      ∙ ap (λ l. acc ++ flat_map f l) (sym (from_index xs k x at))
      ∙ so_far

  -- all were gathered
  pub gathered_all : (k : ℕ) (acc whole : List Y) → None ≡ slice_get xs k → acc ++ flat_map f (drop k xs) ≡ whole → acc ≡ whole
  gathered_all k acc whole past so_far = sym (append-nil acc) ∙ ap (λ l. acc ++ flat_map f l) (sym (past_index xs k past)) ∙ so_far

-- elements that a loop over a list gathers, those to come standing behind them
module _ {X Y : Type 0} (f : X → List Y) (xs : List X) (i : ℕ) where
  pub gathers_read : (d : X) (acc acc' whole : List Y) → i < length xs → acc' ≡ acc ++ f (get_or xs i d) → acc ++ flat_map f (drop i xs) ≡ whole
      → acc' ++ flat_map f (drop (i + 1) xs) ≡ whole
  gathers_read d acc acc' whole within more so_far =
      ap (λ l. l ++ flat_map f (drop (i + 1) xs)) more
      ∙ append_assoc acc (f (get_or xs i d)) (flat_map f (drop (i + 1) xs))
      ∙ ap (λ l. acc ++ l) (sym (at_drop_more (flat_map f) xs i d within))
      ∙ so_far

  pub gathers_all : (acc whole : List Y) → length xs ≤ i → acc ++ flat_map f (drop i xs) ≡ whole → acc ≡ whole
  gathers_all acc whole past so_far = sym (append-nil acc) ∙ ap (λ l. acc ++ l) (sym (at_drop_all (flat_map f) xs i past)) ∙ so_far

module _ {X Y : Type 0} (f : X → Y) (xs : List X) where
  -- one element more was listed
  pub listed_more : (k : ℕ) (x : X) (acc acc' : List Y) → Some x ≡ slice_get xs k → acc' ≡ acc ++ f x ∷ [] → acc ++ map f (drop k xs) ≡ map f xs → acc' ++ map f (drop (k + 1) xs) ≡ map f xs
  listed_more k x acc acc' at more so_far =
      ap (λ l. l ++ map f (drop (k + 1) xs)) more
      ∙ append_assoc acc (f x ∷ []) (map f (drop (k + 1) xs))
      ∙ ap (λ n. acc ++ (f x ∷ map f (drop n xs))) (add-one k)
      ∙ ap (λ l. acc ++ map f l) (sym (from_index xs k x at))
      ∙ so_far

  -- all were listed
  pub listed_all : (k : ℕ) (acc : List Y) → None ≡ slice_get xs k → acc ++ map f (drop k xs) ≡ map f xs → acc ≡ map f xs
  listed_all k acc past so_far = sym (append-nil acc) ∙ ap (λ l. acc ++ map f l) (sym (past_index xs k past)) ∙ so_far

take_at : {Y : Type 0} (xs : List Y) (i : ℕ) (y : Y) → Some y ≡ slice_get xs i → take (suc i) xs ≡ take i xs ++ y ∷ []
take_at [] i y h = cc
take_at (x ∷ xs) zero y h = let e : y ≡ x = cc in ap (λ z. z ∷ []) (sym e)
take_at (x ∷ xs) (suc i) y h = ap (λ l. x ∷ l) (take_at xs i y h)

-- one element more of those that are shown
pub taken_more : {X Y : Type 0} (f : X → Y) (list list' : List X) (xs : List Y) (i : ℕ) (x : X) (y : Y) → map f list ≡ take i xs → Some y ≡ slice_get xs i → f x ≡ y → list' ≡ list ++ x ∷ [] → map f list' ≡ take (i + 1) xs
taken_more f list list' xs i x y so_far at same more =
    ap (map f) more
    ∙ map-append f list (x ∷ [])
    ∙ ap (λ l. l ++ f x ∷ []) so_far
    ∙ ap (λ z. take i xs ++ z ∷ []) same
    ∙ sym (take_at xs i y at)
    ∙ ap (λ n. take n xs) (sym (add-one i))

-- what three calls gathered, the last of which may fail
module _ {K X Y : Type 0} (f : K → Option X → List Y) (found : K → Option X) where
  pub gathered_thrice : {T E : Type 0} (r : Result T E) (acc first second third : List Y) (a b c : K) (x y z : Option X) → x ≡ found a → y ≡ found b → z ≡ found c → first ≡ acc ++ f a x → second ≡ first ++ f b y → OnOk r (third ≡ second ++ f c z) → OnOk r (third ≡ acc ++ (f a (found a) ++ (f b (found b) ++ f c (found c))))
  gathered_thrice (Err e) acc first second third a b c x y z at_a at_b at_c one two three = three
  gathered_thrice (Ok v) acc first second third a b c x y z at_a at_b at_c one two three =
      three
      ∙ ap (λ l. l ++ f c z) (two ∙ ap (λ l. l ++ f b y) one)
      ∙ append_assoc (acc ++ f a x) (f b y) (f c z)
      ∙ append_assoc acc (f a x) (f b y ++ f c z)
      ∙ ap (λ v. acc ++ (f a v ++ (f b y ++ f c z))) at_a
      ∙ ap (λ v. acc ++ (f a (found a) ++ (f b v ++ f c z))) at_b
      ∙ ap (λ v. acc ++ (f a (found a) ++ (f b (found b) ++ f c v))) at_c
