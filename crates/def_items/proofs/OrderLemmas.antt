-- The items of a list that pass a test.
use Rattle.std.proofs.Common.{◌≡◌, ◌<◌, ◌+◌, ℕ, suc, Bool, true, false, cond, ◌||◌, List, [], ◌∷◌, ◌++◌, drop, filter, length, get_or, not, refl, sym, ap, ◌∙◌, append_assoc, add-one}
use Rattle.std.specs.List.{list_any}
use Rattle.std.proofs.Math.Seq.{drop-cons}

module _ {X : Type 0} (test : X → Bool) where
  one_more : (b : Bool) (x : X) (rest : List X) → cond b (x ∷ []) [] ++ rest ≡ cond b (x ∷ rest) rest
  one_more true x rest = refl
  one_more false x rest = refl

  -- those that are left begin with the next one, if that passes
  pub passes_next : (list start old new : List X) (i : ℕ) (x d : X) (b : Bool) → i < length list → x ≡ get_or list i d → b ≡ test x
      → old ++ filter test (drop i list) ≡ start → new ≡ old ++ cond b (x ∷ []) [] → new ++ filter test (drop (i + 1) list) ≡ start
  passes_next list start old new i x d b within item passes so_far more =
      let rest : List X = drop (suc i) list in
      let left : filter test (drop i list) ≡ cond b (x ∷ []) [] ++ filter test rest =
      ap (filter test) (drop-cons list i d within) ∙ ap (λ y. filter test (y ∷ rest)) (sym item) ∙ ap (λ c. cond c (x ∷ filter test rest) (filter test rest)) (sym passes) ∙ sym (one_more b x (filter test rest)) in
      ap (λ l. l ++ filter test (drop (i + 1) list)) more
      ∙ ap (λ n. (old ++ cond b (x ∷ []) []) ++ filter test (drop n list)) (add-one i)
      ∙ append_assoc old (cond b (x ∷ []) []) (filter test rest)
      ∙ ap (λ l. old ++ l) (sym left)
      ∙ so_far

  -- where none passes, no item is among those that pass
  none-pass : (list : List X) → list_any test list ≡ false → filter test list ≡ []
  none-pass [] none = refl
  none-pass (x ∷ list) none = by (test x) none (λ h. none-pass list h)
    where
      by : (b : Bool) → (b || list_any test list) ≡ false → (list_any test list ≡ false → filter test list ≡ []) → cond b (x ∷ filter test list) (filter test list) ≡ []
      by true h rest = cc
      by false h rest = rest h

  -- and all are among the others
  others-stay : (list : List X) → list_any test list ≡ false → filter (λ x. not (test x)) list ≡ list
  others-stay [] none = refl
  others-stay (x ∷ list) none = by (test x) none (λ h. others-stay list h)
    where
      by : (b : Bool) → (b || list_any test list) ≡ false → (list_any test list ≡ false → filter (λ y. not (test y)) list ≡ list)
          → cond (not b) (x ∷ filter (λ y. not (test y)) list) (filter (λ y. not (test y)) list) ≡ x ∷ list
      by true h rest = cc
      by false h rest = ap (λ l. x ∷ l) (rest h)

  -- so those that pass and then the others are the list
  pub none-first : (list : List X) → list_any test list ≡ false → filter test list ++ filter (λ x. not (test x)) list ≡ list
  none-first list none = λ i. none-pass list none i ++ others-stay list none i

  -- whether one is left that passes, behind one
  next-left : (list : List X) (i : ℕ) (x d : X) (b : Bool) → i < length list → x ≡ get_or list i d → b ≡ test x → list_any test (drop i list) ≡ (b || list_any test (drop (suc i) list))
  next-left list i x d b within item passes =
      ap (list_any test) (drop-cons list i d within) ∙ ap (λ y. list_any test (y ∷ drop (suc i) list)) (sym item) ∙ ap (λ c. c || list_any test (drop (suc i) list)) (sym passes)

  -- behind one that does not pass, one is left that passes where one was
  pub none-next : (list : List X) (any : Bool) (i : ℕ) (x d : X) (b : Bool) → i < length list → x ≡ get_or list i d → b ≡ test x → b ≡ false
      → list_any test (drop i list) ≡ any → list_any test (drop (i + 1) list) ≡ any
  none-next list any i x d b within item passes fails so_far =
      ap (λ n. list_any test (drop n list)) (add-one i) ∙ sym (next-left list i x d b within item passes ∙ ap (λ c. c || list_any test (drop (suc i) list)) fails) ∙ so_far
