-- Elements of lists: the first or last, and the others.
use Rattle.std.proofs.Common.{◌≡◌, ◌⊎◌, inl, inr, List, [], ◌∷◌, ◌++◌, Contains, refl, ap, arith}
use Rattle.std.proofs.lemmas.List.Elements.{Contains-append_cases, Contains-push_cases}

-- an element is the first, or one of the rest
pub contains_cases : {X : Type 0} (x y : X) (xs : List X) → Contains (x ∷ xs) y → (x ≡ y) ⊎ Contains xs y
contains_cases x y xs h =
    elim (Contains-append_cases (x ∷ []) xs y h) [
      | inl first ↦ elim (Contains-push_cases [] x y first) [
        | inl none ↦ let wrong = none.1 in absurd (omega arith)
        | inr same ↦ inl same
      ]
      | inr rest ↦ inr rest
    ]

-- a list with an element is not empty
pub not_empty : {X : Type 0} (xs ys : List X) (x : X) → [] ≡ xs ++ x ∷ ys → ⊥
not_empty [] ys x e = cc
not_empty (z ∷ xs) ys x e = cc

-- an element of a list with one more stands in the list, where the one more is the last behind it, or is the last
pub split_last : {X : Type 0} (xs before after : List X) (y x : X) → xs ++ y ∷ [] ≡ before ++ x ∷ after → ((rest : List X) × (xs ≡ before ++ x ∷ rest) × (after ≡ rest ++ y ∷ [])) ⊎ ((before ≡ xs) × (y ≡ x))
split_last [] [] after y x e = let same : y ≡ x = cc in inr (refl, same)
split_last [] (b ∷ before) after y x e = let rest : [] ≡ before ++ x ∷ after = cc in absurd (not_empty before after x rest)
split_last (z ∷ xs) [] after y x e = let same : z ≡ x = cc in let behind : after ≡ xs ++ y ∷ [] = cc in inl (xs, ap (λ w. w ∷ xs) same, behind)
split_last (z ∷ xs) (b ∷ before) after y x e =
    let head : z ≡ b = cc in
    let tail : xs ++ y ∷ [] ≡ before ++ x ∷ after = cc in
    elim (split_last xs before after y x tail) [
      | inl more ↦ inl (more.0, cc (more.1, head), more.2)
      | inr last ↦ inr (cc (last.0, head), last.1)
    ]
