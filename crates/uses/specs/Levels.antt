-- Orders of levels by their ranks.
use Rattle.std.specs.Prelude.{◌≡◌, ◌<◌, ◌≤◌, ◌+◌, true, ℕ, List, [], ◌∷◌, length, nat_le, nat_lt}
use Rattle.std.proofs.Common.{ap, arith, sym, ◌∙◌}
use Rattle.std.proofs.lemmas.Bool.{leb-true, le-leb, leb-false, ltb-true}
use Rattle.def_bindings.specs.Order.{Order, IsBelow, RisesFrom, IsStrictlyRising, IsLawful}

-- a visibility is at most those of no lesser rank, and is seen from modules whose place is at most its rank
abbrev pub order_by : {V : Type 0} → (V → ℕ) → Order V
order_by rank = record { at_most = λ a b. nat_le (rank a) (rank b); can_see = λ place v. nat_le place.index (rank v) }

-- each visibility has a rank of its own, below the height
module _ {V : Type 0} (rank : V → ℕ) (height : ℕ) (of_rank : ℕ → V) (own : (v : V) → of_rank (rank v) ≡ v) (bounded : (v : V) → nat_lt (rank v) height ≡ true) where
  reflexive : (a : V) → nat_le (rank a) (rank a) ≡ true
  reflexive a = le-leb (rank a) (rank a) (omega arith)

  transitive : (m a b : ℕ) → nat_le m a ≡ true → nat_le a b ≡ true → nat_le m b ≡ true
  transitive m a b p q = let s = leb-true m a p in let t = leb-true a b q in le-leb m b (omega arith)

  antisymmetric : (a b : V) → nat_le (rank a) (rank b) ≡ true → nat_le (rank b) (rank a) ≡ true → a ≡ b
  antisymmetric a b p q =
      let s = leb-true (rank a) (rank b) p in
      let t = leb-true (rank b) (rank a) q in
      let e : rank a ≡ rank b = omega arith in
      sym (own a) ∙ ap of_rank e ∙ own b

  ranks_rise : (a b : V) → IsBelow (order_by rank).at_most a b → rank a < rank b
  ranks_rise a b h = leb-false (rank b) (rank a) h.strict

  rises_by_rank : (v : V) (vs : List V) → RisesFrom (order_by rank).at_most v vs → rank v + length vs < height
  rises_by_rank v [] h = let p = ltb-true (rank v) height (bounded v) in omega arith
  rises_by_rank v (w ∷ ws) h = let p = ranks_rise v w h.0 in let q = rises_by_rank w ws h.1 in omega arith

  length-rising : (vs : List V) → IsStrictlyRising (order_by rank).at_most vs → length vs ≤ height
  length-rising [] h = omega arith
  length-rising (v ∷ vs) h = let p = rises_by_rank v vs h in omega arith

  -- the order of ranks is one that a collection may be given
  pub order_by_is_lawful : IsLawful (order_by rank) height
  order_by_is_lawful =
      record {
        is_order = record { reflexive = reflexive; transitive = λ a b c. transitive (rank a) (rank b) (rank c); antisymmetric = antisymmetric };
        stays_visible = λ a b place p q. transitive place.index (rank a) (rank b) q p;
        rise_ends = length-rising;
      }
