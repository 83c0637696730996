-- What lists contain that are made piece by piece.
use Rattle.std.proofs.Common.{◌≡◌, ◌⊎◌, inl, inr, ℕ, zero, suc, ◌+◌, ◌<◌, ◌≤◌, drop, List, [], ◌∷◌, ◌++◌, Option, Some, None, All, Contains, length, get_or, refl, sym, ◌∙◌, ap, subst, arith, append_assoc}
use Rattle.std.specs.Prelude.{AllPairs, filter_map, flat_map}
use Rattle.std.specs.List.{cons_option}
use Rattle.std.proofs.lemmas.List.{append-nil, at_drop_all, at_drop_more}
use Rattle.std.proofs.lemmas.List.Elements.{Contains-append_left, Contains-append_right, Contains-append_cases, Contains-get_or}
use Rattle.std.proofs.lemmas.List.Kept.{AllPairs-cons}

module _ {X : Type 0} where
  two_pieces : (b c : Option X) → cons_option b [] ++ cons_option c [] ≡ cons_option b (cons_option c [])
  two_pieces None c = refl
  two_pieces (Some b) c = refl

  joined_pieces : (a b c : Option X) → (cons_option a [] ++ cons_option b []) ++ cons_option c [] ≡ cons_option a (cons_option b (cons_option c []))
  joined_pieces None b c = two_pieces b c
  joined_pieces (Some a) b c = ap (λ l. a ∷ l) (two_pieces b c)

  -- pieces of at most one element each
  pub three_pieces : (old : List X) (a b c : Option X) → ((old ++ cons_option a []) ++ cons_option b []) ++ cons_option c [] ≡ old ++ cons_option a (cons_option b (cons_option c []))
  three_pieces old a b c =
      ap (λ l. l ++ cons_option c []) (append_assoc old (cons_option a []) (cons_option b [])) ∙ append_assoc old (cons_option a [] ++ cons_option b []) (cons_option c []) ∙ ap (λ l. old ++ l) (joined_pieces a b c)

module _ {X : Type 0} where
  -- the head is there
  pub Contains_head : (x : X) (xs : List X) → Contains (x ∷ xs) x
  Contains_head x xs = (0, omega arith, refl)

  -- and what the rest contains
  pub Contains_rest : (x : X) (xs : List X) (y : X) → Contains xs y → Contains (x ∷ xs) y
  Contains_rest x xs y h = Contains-append_right (x ∷ []) xs y h

  -- an element of one is that one
  Contains_one : (x y : X) → Contains (x ∷ []) y → y ≡ x
  Contains_one x y (zero, within, is) = sym is
  Contains_one x y (suc k, within, is) = absurd (omega (arith, within))

  -- an element is the head or one of the rest
  pub Contains_cons : (x : X) (xs : List X) (y : X) → Contains (x ∷ xs) y → (y ≡ x) ⊎ Contains xs y
  Contains_cons x xs y h = elim (Contains-append_cases (x ∷ []) xs y h) [ inl first ↦ inl (Contains_one x y first) | inr rest ↦ inr rest ]

  -- nothing has no element
  pub Contains_none : (y : X) → Contains [] y → ⊥
  Contains_none y (k, within, is) = omega (arith, within)

module _ {X Y : Type 0} where
  -- what is found of an element is there
  pub Contains_found : (h : X → Option Y) (xs : List X) (x : X) (y : Y) → Contains xs x → h x ≡ Some y → Contains (filter_map h xs) y
  Contains_found h [] x y there is = absurd (Contains_none x there)
  Contains_found h (z ∷ zs) x y there is =
      elim (Contains_cons z zs x there) [
        | inl same ↦ subst (λ o. Contains (cons_option o (filter_map h zs)) y) (sym is ∙ ap h same) (Contains_head y (filter_map h zs))
        | inr rest ↦ over (h z) (Contains_found h zs x y rest is)
      ]
    where
      over : (o : Option _) → Contains (filter_map h zs) y → Contains (cons_option o (filter_map h zs)) y
      over None l = l
      over (Some first) l = Contains_rest first (filter_map h zs) y l

  -- and each element is found of one
  pub found_of : (h : X → Option Y) (xs : List X) (y : Y) → Contains (filter_map h xs) y → (x : X) × Contains xs x × (h x ≡ Some y)
  found_of h [] y there = absurd (Contains_none y there)
  found_of h (z ∷ zs) y there = by (found_of h zs y) (h z) refl there
    where
      later : ((x : X) × Contains zs x × (h x ≡ Some y)) → (x : X) × Contains (z ∷ zs) x × (h x ≡ Some y)
      later found = (found.0, Contains_rest z zs found.0 found.1, found.2)

      by : (Contains (filter_map h zs) y → (x : X) × Contains zs x × (h x ≡ Some y)) → (o : Option Y) → h z ≡ o
          → Contains (cons_option o (filter_map h zs)) y → (x : X) × Contains (z ∷ zs) x × (h x ≡ Some y)
      by rest None e there = later (rest there)
      by rest (Some first) e there =
          elim (Contains_cons first (filter_map h zs) y there) [ inl same ↦ (z, Contains_head z zs, e ∙ ap Some (sym same)) | inr there ↦ later (rest there) ]

  -- what a piece contains is there
  pub Contains_piece : (f : X → List Y) (xs : List X) (x : X) (y : Y) → Contains xs x → Contains (f x) y → Contains (flat_map f xs) y
  Contains_piece f [] x y there inside = absurd (Contains_none x there)
  Contains_piece f (z ∷ zs) x y there inside =
      elim (Contains_cons z zs x there) [
        | inl same ↦ Contains-append_left (f z) (flat_map f zs) y (subst (λ w. Contains (f w) y) same inside)
        | inr rest ↦ Contains-append_right (f z) (flat_map f zs) y (Contains_piece f zs x y rest inside)
      ]

  -- and each element is one of a piece
  pub piece_of : (f : X → List Y) (xs : List X) (y : Y) → Contains (flat_map f xs) y → (x : X) × Contains xs x × Contains (f x) y
  piece_of f [] y there = absurd (Contains_none y there)
  piece_of f (z ∷ zs) y there =
      elim (Contains-append_cases (f z) (flat_map f zs) y there) [
        | inl first ↦ (z, Contains_head z zs, first)
        | inr rest ↦ let found = piece_of f zs y rest in (found.0, Contains_rest z zs found.0 found.1, found.2)
      ]

-- what holds of each element
pub all_of : {X : Type 0} (P : X → Type 0) (xs : List X) → ((x : X) → Contains xs x → P x) → All P xs
all_of P xs each = λ k d within. each (get_or xs k d) (Contains-get_or xs k d within)

module _ {X : Type 0} (R : X → X → Type 0) where
  rest_pairs : (x : X) (xs : List X) → AllPairs R (x ∷ xs) → AllPairs R xs
  rest_pairs x xs whole = λ i j d below within. whole (suc i) (suc j) d (omega (arith, below)) (omega (arith, within))

  head_pairs : (x : X) (xs : List X) → AllPairs R (x ∷ xs) → (b : X) → Contains xs b → R x b
  head_pairs x xs whole b (k, within, is) = subst (R x) is (whole 0 (suc k) b (omega arith) (omega (arith, within)))

  -- of two lists, one after the other, where each element of the first goes with each of the second
  pub pairs_behind : (xs ys : List X) → AllPairs R xs → AllPairs R ys → ((a b : X) → Contains xs a → Contains ys b → R a b) → AllPairs R (xs ++ ys)
  pairs_behind [] ys first second across = second
  pairs_behind (x ∷ xs) ys first second across =
      AllPairs-cons R x (xs ++ ys)
      (all_of (R x) (xs ++ ys) (λ b there. elim (Contains-append_cases xs ys b there) [
        | inl own ↦ head_pairs x xs first b own
        | inr other ↦ across x b (Contains_head x xs) other
      ]))
      (pairs_behind xs ys (rest_pairs x xs first) second (λ a b own other. across a b (Contains_rest x xs a own) other))

-- of what is made of a list, element by element
module _ {X Y : Type 0} (S : X → X → Type 0) (R : Y → Y → Type 0) where
  pub pairs_found : (h : X → Option Y) (xs : List X) → AllPairs S xs → ((x z : X) → S x z → (a b : Y) → h x ≡ Some a → h z ≡ Some b → R a b) → AllPairs R (filter_map h xs)
  pairs_found h [] whole across = λ i j d below within. absurd (omega (arith, within))
  pairs_found h (x ∷ xs) whole across = by (pairs_found h xs (rest_pairs S x xs whole) across) (h x) refl
    where
      by : AllPairs R (filter_map h xs) → (o : Option Y) → h x ≡ o → AllPairs R (cons_option o (filter_map h xs))
      by rest None e = rest
      by rest (Some a) e =
          AllPairs-cons R a (filter_map h xs)
          (all_of (R a) (filter_map h xs) (λ b there. let found = found_of h xs b there in across x found.0 (head_pairs S x xs whole found.0 found.1) a b e found.2)) rest

  pub pairs_of_pieces : (f : X → List Y) (xs : List X) → AllPairs S xs → ((x : X) → AllPairs R (f x)) → ((x z : X) → S x z → (a b : Y) → Contains (f x) a → Contains (f z) b → R a b) → AllPairs R (flat_map f xs)
  pairs_of_pieces f [] whole each across = λ i j d below within. absurd (omega (arith, within))
  pairs_of_pieces f (x ∷ xs) whole each across =
      pairs_behind R (f x) (flat_map f xs) (each x) (pairs_of_pieces f xs (rest_pairs S x xs whole) each across)
      (λ a b first second. let piece = piece_of f xs b second in across x piece.0 (head_pairs S x xs whole piece.0 piece.1) a b first piece.2)

-- elements that a loop over a list gathers, those to come standing behind them
module _ {X Y : Type 0} (f : X → List Y) (xs : List X) (i : ℕ) where
  -- one element more was read
  pub gathers_read : (d : X) (acc more whole : List Y) → i < length xs → more ≡ acc ++ f (get_or xs i d) → acc ++ flat_map f (drop i xs) ≡ whole
      → more ++ flat_map f (drop (i + 1) xs) ≡ whole
  gathers_read d acc more whole within is so_far =
      ap (λ l. l ++ flat_map f (drop (i + 1) xs)) is
      ∙ append_assoc acc (f (get_or xs i d)) (flat_map f (drop (i + 1) xs))
      ∙ ap (λ l. acc ++ l) (sym (at_drop_more (flat_map f) xs i d within))
      ∙ so_far

  -- all were read
  pub gathers_all : (acc whole : List Y) → length xs ≤ i → acc ++ flat_map f (drop i xs) ≡ whole → acc ≡ whole
  gathers_all acc whole past so_far = sym (append-nil acc) ∙ ap (λ l. acc ++ l) (sym (at_drop_all (flat_map f) xs i past)) ∙ so_far
