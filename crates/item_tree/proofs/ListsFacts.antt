-- Words on lists and options, at worked rows.
use Rattle.std.specs.Prelude.{◌≡◌, ◌==◌, ℕ, None, Some, [], ◌∷◌, refl}
use Rattle.item_tree.specs.Lists.{or_else, set_where, only_of_list}

-- the first answer stands where there are two, and the second where the first is missing
first_answer : or_else {X = ℕ} (Some 1) (Some 2) ≡ Some 1
first_answer = refl

second_answer : or_else {X = ℕ} None (Some 2) ≡ Some 2
second_answer = refl

first_alone : or_else {X = ℕ} (Some 1) None ≡ Some 1
first_alone = refl

-- the value at the place that the test picks, and no other
set_at : set_where (λ i. i == 3) 9 (λ i. i) 3 ≡ 9
set_at = refl

kept_elsewhere : set_where (λ i. i == 3) 9 (λ i. i) 4 ≡ 4
kept_elsewhere = refl

only_one : only_of_list {X = ℕ} (5 ∷ []) ≡ Some 5
only_one = refl

one_of_two : only_of_list {X = ℕ} (5 ∷ 6 ∷ []) ≡ None
one_of_two = refl
