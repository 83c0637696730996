-- How far a visibility can still rise among those of a list: less than the height, and less after each rise.
use Rattle.std.proofs.Common.{◌≡◌, ℕ, zero, suc, ◌<◌, ◌≤◌, true, cond, List, [], ◌∷◌, length, refl, sym, ap, ◌∙◌, subst, inl, inr, ◌⊎◌, arith}
use Rattle.std.specs.Prelude.{max, Contains}
use Rattle.std.proofs.lemmas.Bool.{cases_Bool, cases_lt, and_parts, not-true}
use Rattle.std.proofs.Math.Nat.{max-eq_left, max-eq_right}
use Rattle.def_bindings.specs.Order.{Order, IsLawful, IsBelow, RisesFrom, rises_to}
use Rattle.def_globs.proofs.ListLaws.{in_cases, none_in, first_in, later_in}

below : {V : Type 0} (o : Order V) (a b : V) → rises_to o a b ≡ true → IsBelow o.at_most a b
below o a b h = let p = and_parts _ _ h in record { related = p.0; strict = not-true _ p.1 }

module _ {V : Type 0} (o : Order V) where
  -- one more than the most of f, over what is greater than v
  abbrev pub best : (V → ℕ) → V → List V → ℕ
  best f v [] = 0
  best f v (w ∷ ws) = max (cond (rises_to o v w) (suc (f w)) 0) (best f v ws)

  -- the length of the longest rise above v in the list, of n at most
  abbrev pub climb : List V → ℕ → V → ℕ
  climb vs zero v = 0
  climb vs (suc n) v = best (climb vs n) v vs

  best-at : (f : V → ℕ) (v w : V) (ws : List V) → Contains ws w → rises_to o v w ≡ true → suc (f w) ≤ best f v ws
  best-at f v w [] at h = absurd (none_in w at)
  best-at f v w (u ∷ us) at h =
      elim (in_cases u us w at) [
        | inl e ↦
            let h' : rises_to o v u ≡ true = subst (λ z. rises_to o v z ≡ true) e h in
            let s : suc (f w) ≡ suc (f u) = ap (λ z. suc (f z)) e in
            rw h' (omega arith)
        | inr later ↦ let ih = best-at f v w us later h in omega arith
      ]

  -- what the most is reached by
  abbrev Reached : (V → ℕ) → V → ℕ → Type 0
  Reached f v n = (n ≡ 0) ⊎ ((w : V) × (rises_to o v w ≡ true) × (n ≡ suc (f w)))

  reached_max : (f : V → ℕ) (v : V) (m n : ℕ) → Reached f v m → Reached f v n → Reached f v (max m n)
  reached_max f v m n p q =
      elim (cases_lt n m) [
        | inl h ↦ let l : n ≤ m = omega arith in subst (Reached f v) (sym (max-eq_left l)) p
        | inr h ↦ subst (Reached f v) (sym (max-eq_right h)) q
      ]

  best-reached : (f : V → ℕ) (v : V) (ws : List V) → Reached f v (best f v ws)
  best-reached f v [] = inl refl
  best-reached f v (w ∷ ws) =
      let rest = best-reached f v ws in
      elim (cases_Bool (rises_to o v w)) [
        | inl h ↦ rw h (reached_max f v (suc (f w)) (best f v ws) (inr (w, h, refl)) rest)
        | inr h ↦ rw h (reached_max f v 0 (best f v ws) (inl refl) rest)
      ]

  best-same : (f g : V → ℕ) (v : V) (ws : List V) → ((w : V) → Contains ws w → rises_to o v w ≡ true → f w ≡ g w) → best f v ws ≡ best g v ws
  best-same f g v [] h = refl
  best-same f g v (w ∷ ws) h =
      let rest = best-same f g v ws (λ u at. h u (later_in w ws u at)) in
      elim (cases_Bool (rises_to o v w)) [
        | inl r ↦ let s : f w ≡ g w = h w (first_in w ws) r in rw (r, s, rest) refl
        | inr r ↦ rw (r, rest) refl
      ]

  -- a list that rises above v, as long as the climb
  abbrev Rise : V → ℕ → Type 0
  Rise v k = (rise : List V) × (RisesFrom o.at_most v rise × (length rise ≡ k))

  rise_reached : (f : V → ℕ) (v : V) (k : ℕ) → ((w : V) → Rise w (f w)) → Reached f v k → Rise v k
  rise_reached f v k ih r =
      elim r [
        | inl e ↦ ([], (tt, sym e))
        | inr more ↦
            let t = ih more.0 in
            (more.0 ∷ t.0, ((below o v more.0 more.1, t.1.0), ap suc t.1.1 ∙ sym more.2))
      ]

  climb-rise : (vs : List V) (n : ℕ) (v : V) → Rise v (climb vs n v)
  climb-rise vs zero v = ([], (tt, refl))
  climb-rise vs (suc n) v = rise_reached (climb vs n) v _ (climb-rise vs n) (best-reached (climb vs n) v vs)

  -- with steps to spare, more steps climb no further
  climb-stays : (vs : List V) (n : ℕ) (v : V) → climb vs n v < n → climb vs (suc n) v ≡ climb vs n v
  climb-stays vs zero v h = absurd (omega arith)
  climb-stays vs (suc n) v h =
      best-same (climb vs (suc n)) (climb vs n) v vs
      (λ w at r. let less = best-at (climb vs n) v w vs at r in climb-stays vs n w (omega arith))

  module _ (height : ℕ) (lawful : IsLawful o height) (vs : List V) where
    -- a climb is shorter than the height
    pub climb-height : (n : ℕ) (v : V) → climb vs n v < height
    climb-height n v =
        let rise = climb-rise vs n v in
        let short : length (v ∷ rise.0) ≤ height = lawful.rise_ends (v ∷ rise.0) rise.1.0 in
        let same : length rise.0 ≡ climb vs n v = rise.1.1 in
        omega arith

    -- what is greater climbs less
    pub climb-less : (v w : V) → Contains vs w → rises_to o v w ≡ true → climb vs height w < climb vs height v
    climb-less v w at h =
        let one_more = best-at (climb vs height) v w vs at h in
        let stays = climb-stays vs height v (climb-height height v) in
        let whole : climb vs (suc height) v ≡ best (climb vs height) v vs = refl in
        omega arith
