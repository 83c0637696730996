-- Items in the order of the text are a tree.
use Rattle.std.proofs.Common.{◌≡◌, ℕ, ◌+◌, ◌<◌, ◌≤◌, ◌⊎◌, zero, suc, Bool, List, [], ◌∷◌, length, length-take-le, take, drop, cond, ◌-◌, refl, sym, ap, ◌∙◌, subst, inl, inr, arith}
use Rattle.std.specs.Prelude.{Some, None, slice_get, ◌==◌, sum_by, if◌then◌else◌}
use Rattle.std.proofs.lemmas.Bool.{cases_lt}
use Rattle.std.proofs.lemmas.Bool.Decides.{eqb_tells}
use Rattle.std.proofs.lemmas.Option.{slice_get_within, slice_get_read, slice_get-get_or}
use Rattle.std.proofs.lemmas.List.Sums.{sum_by-cons}
use Rattle.tree_ids.specs.declared.ids.ModItemId.{ModItemId}
use Rattle.item_tree.specs.declared.items.ItemNode.{ItemNode}
use Rattle.item_tree.specs.declared.tree.TreeFault.TheVariants.{ChildOutOfRange, ChildNotAfterParent, TwoParents}
use Rattle.item_tree.specs.Trees.{IsSound, children_at, children_of, count_in, occurrences, list_at}
use Rattle.item_tree.specs.TreesLaws.{children_there}
use Rattle.item_tree.specs.TextOrder.{IsRising, AreRising, IsWithin, IsCut, AreCut, IsInTextOrder}
use Rattle.item_tree.proofs.TreesLemmas.{children_past}

-- a number of a rising list is in range
pub rising_at : (bound low : ℕ) (list : List ModItemId) (k : ℕ) (c : ModItemId) → IsRising bound low list → slice_get list k ≡ Some c → (low ≤ c.0) × (c.0 < bound)
rising_at bound low [] k c rises at = cc
rising_at bound low (d ∷ ds) zero c rises at =
    let same : d ≡ c = cc in
    subst (λ (x : ModItemId). (low ≤ x.0) × (x.0 < bound)) same (rises.0, rises.1)
rising_at bound low (d ∷ ds) (suc k) c rises at =
    let rest = rising_at bound (d.0 + 1) ds k c rises.2 at in
    (omega (arith, rises.0, rest.0), rest.1)

-- the last number of a rising list is the greatest
pub rising_last : (bound low : ℕ) (list : List ModItemId) (k l : ℕ) (c d : ModItemId) → IsRising bound low list → slice_get list k ≡ Some c → slice_get list l ≡ Some d → k ≤ l → c.0 ≤ d.0
rising_last bound low [] k l c d rises at_k at_l before = cc
rising_last bound low (x ∷ xs) zero zero c d rises at_k at_l before =
    let same : c ≡ d = cc in
    omega (arith, ap (λ (y : ModItemId). y.0) same)
rising_last bound low (x ∷ xs) zero (suc l) c d rises at_k at_l before =
    let same : x ≡ c = cc in
    let rest = rising_at bound (x.0 + 1) xs l d rises.2 at_l in
    omega (arith, ap (λ (y : ModItemId). y.0) same, rest.0)
rising_last bound low (x ∷ xs) (suc k) zero c d rises at_k at_l before = absurd (omega arith)
rising_last bound low (x ∷ xs) (suc k) (suc l) c d rises at_k at_l before =
    rising_last bound (x.0 + 1) xs k l c d rises.2 at_k at_l (omega arith)

-- a list that rises from a number on rises from a lesser one on
pub rising_lower : (bound low low' : ℕ) (list : List ModItemId) → low' ≤ low → IsRising bound low list → IsRising bound low' list
rising_lower bound low low' [] below rises = tt
rising_lower bound low low' (c ∷ cs) below rises = (omega (arith, rises.0), rises.1, rises.2)

-- what is left of a rising list behind one of its numbers
pub rising_rest : (bound low i : ℕ) (list : List ModItemId) (c : ModItemId) → slice_get list i ≡ Some c → IsRising bound low (drop i list) → (low ≤ c.0) × (c.0 < bound) × IsRising bound (c.0 + 1) (drop (i + 1) list)
rising_rest bound low i [] c at rises = cc
rising_rest bound low zero (d ∷ ds) c at rises =
    let same : d ≡ c = cc in
    subst (λ (x : ModItemId). (low ≤ x.0) × (x.0 < bound) × IsRising bound (x.0 + 1) ds) same rises
rising_rest bound low (suc i) (d ∷ ds) c at rises =
    let next : suc (i + 1) ≡ suc i + 1 = omega arith in
    subst (λ (n : ℕ). (low ≤ c.0) × (c.0 < bound) × IsRising bound (c.0 + 1) (drop n (d ∷ ds))) next (rising_rest bound low i ds c at rises)

-- the last element of a list has its greatest place
pub last_place : (list there : List ModItemId) (c : ModItemId) → list ≡ there → slice_get list (length list - 1) ≡ Some c → (slice_get there (length there - 1) ≡ Some c) × (length there ≡ (length there - 1) + 1)
last_place list there c same last =
    let here : slice_get there (length there - 1) ≡ Some c = subst (λ (l : List ModItemId). slice_get l (length l - 1) ≡ Some c) same last in
    let within = slice_get_within there (length there - 1) c here in
    (here, omega arith)

-- a list with no last element is empty
pub empty_from_none : (list there : List ModItemId) → list ≡ there → slice_get list (length list - 1) ≡ None → there ≡ []
empty_from_none [] there same none = sym same
empty_from_none (x ∷ xs) there same none =
    let some = slice_get-get_or (x ∷ xs) (length (x ∷ xs) - 1) x (omega arith) in
    cc

-- two stretches of items that are closed are closed together
pub within_join : (items : List ItemNode) (low middle high : ℕ) → IsWithin items low middle middle → IsWithin items middle high high → middle ≤ high → IsWithin items low high high
within_join items low middle high first second ordered i k c from to at =
    elim (cases_lt i middle) [
      | inl before ↦ (let fits = first i k c from before at in omega (arith, fits, ordered))
      | inr behind ↦ second i k c behind to at
    ]

-- a walk from an item down to the last child below it passes no other child
pub within_last : (items : List ItemNode) (low last l : ℕ) (child : ModItemId) → IsWithin items low last (last + 1) → AreRising items → IsCut items (last + 1) (children_at items last) → slice_get (children_at items last) l ≡ Some child → length (children_at items last) ≡ l + 1 → IsWithin items low child.0 (child.0 + 1)
within_last items low last l child within rising cut at_last long i k c from to at =
    let ahead = rising_at (length items) (last + 1) (children_at items last) l child (rising last) at_last in
    elim (cases_lt i last) [
      | inl before ↦ (let fits = within i k c from before at in omega (arith, fits, ahead.0))
      | inr behind ↦ elim (cases_lt last i) [
        | inl between ↦ (let fits = cut l child at_last i k c (omega arith) to at in omega (arith, fits))
        | inr upto ↦
            (let same : i ≡ last = omega arith in
            let here : slice_get (children_at items last) k ≡ Some c = subst (λ (j : ℕ). slice_get (children_at items j) k ≡ Some c) same at in
            let place = slice_get_within (children_at items last) k c here in
            let fits = rising_last (length items) (last + 1) (children_at items last) k l c child (rising last) here at_last (omega (arith, place, long)) in
            omega (arith, fits))
      ]
    ]

-- an item with no children closes the stretch
pub within_end : (items : List ItemNode) (low last : ℕ) → IsWithin items low last (last + 1) → children_at items last ≡ [] → IsWithin items low (last + 1) (last + 1)
within_end items low last within none i k c from to at =
    elim (cases_lt i last) [
      | inl before ↦ within i k c from before at
      | inr behind ↦
          (let same : i ≡ last = omega arith in
          let here : slice_get [] k ≡ Some c = subst (λ (list : List ModItemId). slice_get list k ≡ Some c) none (subst (λ (j : ℕ). slice_get (children_at items j) k ≡ Some c) same at) in
          cc)
    ]

-- an element of a prefix is one of the list
from_prefix : {A : Type 0} (n : ℕ) (list : List A) (k : ℕ) (x : A) → slice_get (take n list) k ≡ Some x → slice_get list k ≡ Some x
from_prefix zero list k x at = cc
from_prefix (suc n) [] k x at = at
from_prefix (suc n) (y ∷ ys) zero x at = at
from_prefix (suc n) (y ∷ ys) (suc k) x at = from_prefix n ys k x at

-- an element of a list is one of the prefix that is long enough
pub into_prefix : {A : Type 0} (n : ℕ) (list : List A) (k : ℕ) (x : A) → k < n → slice_get list k ≡ Some x → slice_get (take n list) k ≡ Some x
into_prefix zero list k x before at = absurd (omega arith)
into_prefix (suc n) [] k x before at = at
into_prefix (suc n) (y ∷ ys) zero x before at = at
into_prefix (suc n) (y ∷ ys) (suc k) x before at = into_prefix n ys k x (omega arith) at

-- one more number of the list
pub cut_more : (items : List ItemNode) (low i : ℕ) (list : List ModItemId) (c : ModItemId) → IsCut items low (take i list) → slice_get list i ≡ Some c → IsWithin items low c.0 c.0 → IsCut items low (take (i + 1) list)
cut_more items low i list c cut stands here k d at =
    let there = from_prefix (i + 1) list k d at in
    let place = slice_get_within (take (i + 1) list) k d at in
    let room = slice_get_within list i c stands in
    elim (cases_lt k i) [
      | inl before ↦ cut k d (into_prefix i list k d before there)
      | inr behind ↦
          (let last : k ≡ i = omega (arith, place, length-take-le {A = ModItemId}) in
          let same : c ≡ d = cc in
          subst (λ (x : ModItemId). IsWithin items low x.0 x.0) same here)
    ]

-- numbers below those of a rising list are not in it
count_below : (bound low i : ℕ) (list : List ModItemId) → IsRising bound low list → i < low → count_in i list ≡ 0
count_below bound low i [] rises below = refl
count_below bound low i (c ∷ cs) rises below =
    let rest = count_below bound (c.0 + 1) i cs rises.2 (omega (arith, rises.0)) in
    elim (eqb_tells c.0 i) [
      | inl w ↦ absurd (let same = w.1 in omega (arith, rises.0))
      | inr w ↦ sum_by-cons (λ (d : ModItemId). cond (d.0 == i) 1 0) c cs ∙ omega (arith, ap {B = ℕ} (λ b. cond b 1 0) w.0, rest)
    ]

-- a rising list has no number twice
count_rising : (bound low i : ℕ) (list : List ModItemId) → IsRising bound low list → count_in i list ≤ 1
count_rising bound low i [] rises = omega arith
count_rising bound low i (c ∷ cs) rises =
    let more = sum_by-cons (λ (d : ModItemId). cond (d.0 == i) 1 0) c cs in
    elim (eqb_tells c.0 i) [
      | inl w ↦ (let same = w.1 in let rest = count_below bound (c.0 + 1) i cs rises.2 (omega arith) in omega (arith, more, ap {B = ℕ} (λ b. cond b 1 0) w.0, rest))
      | inr w ↦ (let rest = count_rising bound (c.0 + 1) i cs rises.2 in omega (arith, more, ap {B = ℕ} (λ b. cond b 1 0) w.0, rest))
    ]

-- a number that is counted stands at a place
counted_at : (i : ℕ) (list : List ModItemId) → 0 < count_in i list → (k : ℕ) × (c : ModItemId) × (slice_get list k ≡ Some c) × (c.0 ≡ i)
counted_at i [] some = absurd (omega arith)
counted_at i (c ∷ cs) some =
    let more = sum_by-cons (λ (d : ModItemId). cond (d.0 == i) 1 0) c cs in
    elim (eqb_tells c.0 i) [
      | inl w ↦ (zero, c, refl, w.1)
      | inr w ↦ (let rest = counted_at i cs (omega (arith, more, ap {B = ℕ} (λ b. cond b 1 0) w.0, some)) in (suc rest.0, rest.1, rest.2, rest.3))
    ]

-- a sum of nothing
sum_none : {A : Type 0} (f : A → ℕ) (xs : List A) → ((k : ℕ) (x : A) → slice_get xs k ≡ Some x → f x ≡ 0) → sum_by f xs ≡ 0
sum_none f [] none = refl
sum_none f (x ∷ xs) none =
    let rest = sum_none f xs (λ k y at. none (suc k) y at) in
    omega (arith, sum_by-cons f x xs, none zero x refl, rest)

positive : (n : ℕ) → (n ≡ 0) ⊎ (0 < n)
positive zero = inl refl
positive (suc n) = inr (omega arith)

-- a sum of ones of which no two are there
sum_one : {A : Type 0} (f : A → ℕ) (xs : List A) → ((k : ℕ) (x : A) → slice_get xs k ≡ Some x → f x ≤ 1) → ((k l : ℕ) (x y : A) → k < l → slice_get xs k ≡ Some x → slice_get xs l ≡ Some y → 0 < f x → 0 < f y → ⊥) → sum_by f xs ≤ 1
sum_one f [] each apart = omega arith
sum_one f (x ∷ xs) each apart =
    let more = sum_by-cons f x xs in
    elim (positive (f x)) [
      | inl none ↦ (let rest = sum_one f xs (λ k y at. each (suc k) y at) (λ k l y z before at_y at_z. apart (suc k) (suc l) y z (omega arith) at_y at_z) in omega (arith, more, none, rest))
      | inr some ↦
          (let rest = sum_none f xs (λ k y at. elim (positive (f y)) [ inl none ↦ none | inr other ↦ absurd (apart zero (suc k) x y (omega arith) refl at some other) ]) in
          omega (arith, more, each zero x refl, rest))
    ]

-- an item is counted once at most in the list of one item
one_of_each : (items : List ItemNode) → AreRising items → (i k : ℕ) (item : ItemNode) → slice_get items k ≡ Some item → count_in i (children_of item) ≤ 1
one_of_each items rising i k item at =
    let same = children_there items k item at in
    subst (λ (list : List ModItemId). count_in i list ≤ 1) same (count_rising (length items) (k + 1) i (children_at items k) (rising k))

-- no item stands in the lists of two items
apart : (items : List ItemNode) → AreRising items → AreCut items 0 → (i k l : ℕ) (x y : ItemNode) → k < l → slice_get items k ≡ Some x → slice_get items l ≡ Some y → 0 < count_in i (children_of x) → 0 < count_in i (children_of y) → ⊥
apart items rising cut i k l x y before at_k at_l in_x in_y =
    let first = counted_at i (children_at items k) (subst (λ (list : List ModItemId). 0 < count_in i list) (sym (children_there items k x at_k)) in_x) in
    let second = counted_at i (children_at items l) (subst (λ (list : List ModItemId). 0 < count_in i list) (sym (children_there items l y at_l)) in_y) in
    let ahead = rising_at (length items) (l + 1) (children_at items l) second.0 second.1 (rising l) second.2 in
    let fits = cut k (omega arith) first.0 first.1 first.2 l second.0 second.1 (omega arith) (omega (arith, ahead.0, second.3, first.3)) second.2 in
    omega (arith, fits, first.3, second.3)

-- no item of the top list stands in the list of an item
apart_from_top : (items : List ItemNode) (top : List ModItemId) → AreRising items → IsCut items 0 top → (i l : ℕ) (y : ItemNode) → slice_get items l ≡ Some y → 0 < count_in i top → 0 < count_in i (children_of y) → ⊥
apart_from_top items top rising cut i l y at_l in_top in_y =
    let first = counted_at i top in_top in
    let second = counted_at i (children_at items l) (subst (λ (list : List ModItemId). 0 < count_in i list) (sym (children_there items l y at_l)) in_y) in
    let ahead = rising_at (length items) (l + 1) (children_at items l) second.0 second.1 (rising l) second.2 in
    let fits = cut first.0 first.1 first.2 l second.0 second.1 (omega arith) (omega (arith, ahead.0, second.3, first.3)) second.2 in
    omega (arith, fits, first.3, second.3)

-- in the order of the text no item stands twice
once : (items : List ItemNode) (top : List ModItemId) → AreRising items → IsRising (length items) 0 top → AreCut items 0 → IsCut items 0 top → (i : ℕ) → occurrences items top i ≤ 1
once items top rising top_rising cut top_cut i =
    let counted : ItemNode → ℕ = λ item. count_in i (children_of item) in
    let in_top = count_rising (length items) 0 i top top_rising in
    elim (positive (count_in i top)) [
      | inl none ↦
          (let below = sum_one counted items (one_of_each items rising i) (apart items rising cut i) in
          omega (arith, none, below))
      | inr some ↦
          (let below = sum_none counted items (λ k item at. elim (positive (counted item)) [ inl none ↦ none | inr other ↦ absurd (apart_from_top items top rising top_cut i k item at some other) ]) in
          omega (arith, in_top, below))
    ]

-- each number of a list of a tree in the order of the text is in range
list_in_range : (items : List ItemNode) (top : List ModItemId) → AreRising items → IsRising (length items) 0 top → (i k : ℕ) (c : ModItemId) → slice_get (list_at items top i) k ≡ Some c → c.0 < length items
list_in_range items top rising top_rising i k c at =
    elim (eqb_tells i (length items)) [
      | inl w ↦
          (let here : slice_get top k ≡ Some c = subst (λ (b : Bool). slice_get (if b then top else children_at items i) k ≡ Some c) w.0 at in
          (rising_at (length items) 0 top k c top_rising here).1)
      | inr w ↦
          (let here : slice_get (children_at items i) k ≡ Some c = subst (λ (b : Bool). slice_get (if b then top else children_at items i) k ≡ Some c) w.0 at in
          (rising_at (length items) (i + 1) (children_at items i) k c (rising i) here).1)
    ]

-- items in the order of the text have no fault
pub sound_in_text_order : (items : List ItemNode) (top : List ModItemId) → IsInTextOrder items top → IsSound items top
sound_in_text_order items top ordered (ChildOutOfRange i) fault =
    let at = slice_get_read (list_at items top i) (length (list_at items top i)) fault.0 fault.1 refl fault.2 (sym fault.3) in
    let there = list_in_range items top ordered.rising ordered.top_rising i fault.0 fault.1 at in
    omega (arith, there, fault.4)
sound_in_text_order items top ordered (ChildNotAfterParent i) fault =
    let at = slice_get_read (children_at items i) (length (children_at items i)) fault.0 fault.1 refl fault.2 (sym fault.3) in
    let ahead = rising_at (length items) (i + 1) (children_at items i) fault.0 fault.1 (ordered.rising i) at in
    omega (arith, ahead.0, fault.4)
sound_in_text_order items top ordered (TwoParents i) fault =
    let one = once items top ordered.rising ordered.top_rising ordered.cut ordered.top_cut i in
    omega (arith, one, fault.1)

-- no list of children at or behind the end is anything but empty, so the items are cut from there on
pub cut_past : (items : List ItemNode) → AreCut items (length items)
cut_past items j past = subst (IsCut items (j + 1)) (sym (children_past items j past)) (λ k c at. let none : ⊥ = cc in absurd none)
