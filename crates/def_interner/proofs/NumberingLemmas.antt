-- Lists of which no two elements are equal.
use Rattle.std.proofs.Common.{◌≡◌, ℕ, ◌<◌, Bool, false, List, arith}
use Rattle.std.specs.Prelude.{Some, slice_get}
use Rattle.std.specs.Cmp.{IsEquivalence}
use Rattle.std.specs.List.{Contains, IsDistinct, list_any}
use Rattle.std.proofs.lemmas.Map.Keys.{apart_from_distinct}
use Rattle.std.proofs.lemmas.Map.Views.{list_any-from_Contains}
use Rattle.std.proofs.lemmas.Option.{slice_get_within, get_or_from_slice_get}
use Rattle.item_tree.specs.Numbering.{IsInjective}

-- of two places of one element neither comes first
not_before : {A : Type 0} {eq : A → A → Bool} → IsEquivalence eq → (xs : List A) → IsDistinct eq xs → (i j : ℕ) (x : A) → slice_get xs i ≡ Some x → slice_get xs j ≡ Some x → i < j → ⊥
not_before {A} {eq} laws xs distinct i j x at_i at_j before =
    let apart = apart_from_distinct eq xs i j x distinct before (slice_get_within xs j x at_j) in
    let same_i = get_or_from_slice_get xs i x x at_i in
    let same_j = get_or_from_slice_get xs j x x at_j in
    let same = laws.refl x in
    cc

-- each element stands at one place
pub injective_from_distinct : {A : Type 0} {eq : A → A → Bool} → IsEquivalence eq → (xs : List A) → IsDistinct eq xs → IsInjective xs
injective_from_distinct laws xs distinct i j x at_i at_j =
    let first = not_before laws xs distinct i j x at_i at_j in
    let second = not_before laws xs distinct j i x at_j at_i in
    grind (arith, first, second)

-- what no test finds is not there
pub absent_from_test : {A : Type 0} {eq : A → A → Bool} → IsEquivalence eq → (xs : List A) (x : A) → list_any (eq x) xs ≡ false → ¬ Contains xs x
absent_from_test laws xs x none there = let found = list_any-from_Contains laws x xs there in cc
