-- A turn among those that are to come, where a first pass is under way.
use Rattle.std.proofs.Common.{◌≡◌, ◌∙◌, ap, sym, refl, arith, inl, inr, ℕ, zero, suc, ◌+◌, ◌-◌, ◌<◌, ◌≤◌, ◌^◌, ◌==◌, nat_lt, Bool, true, false, Option, None, Some, List, [], ◌∷◌, ◌++◌}
use Rattle.std.proofs.lemmas.Bool.{cases_Bool, eqb-true, eqb-false, eq-eqb, le-ltb, ltb-false, ltb-true, ne_eqb}
use Rattle.std.specs.BTreeSet.{insert_key}
use Rattle.std.specs.declared.cmp.Ordering.TheVariants.{Equal, Greater}
use Rattle.std.specs.Ordering.{bool_cmp, nat_cmp, ordering_then}
use Rattle.def_imports.specs.declared.coming.Sweep.{Sweep}
use Rattle.def_steps.specs.declared.import_lists.ImportAt.{ImportAt}
use Rattle.def_imports.specs.declared.turns.Turn.{Turn}
use Rattle.def_imports.specs.Sweeps.{GoesOnAfter, IsLeft, first_turn, place_of, swept, swept_turns}
use Rattle.def_imports.specs.Turns.{WakesAfter, is_indeterminate, turn_order}

pub equal : (n : ℕ) → nat_cmp n n ≡ Equal
equal n = rw (le-ltb n n (omega arith), eq-eqb n n refl) refl

pub greater : (m n : ℕ) → n < m → nat_cmp m n ≡ Greater
greater m n l = rw (le-ltb m n (omega arith), ne_eqb m n (λ e. omega (arith, e))) refl

-- a turn that comes after each of a first pass
abbrev pub IsAfter : ℕ → Turn → Type 0
IsAfter len turn = (index : ℕ) → index < len → turn_order turn (first_turn index) ≡ Greater

pub after-by-pass : (len : ℕ) (turn : Turn) → 1 < turn.pass → IsAfter len turn
after-by-pass len turn l index below = rw (greater turn.pass 1 l) refl

pub after-by-list : (len : ℕ) (turn : Turn) → turn.pass ≡ 1 → turn.is_indeterminate ≡ true → IsAfter len turn
after-by-list len turn pass list index below = rw (pass, list) refl

pub after-by-place : (len : ℕ) (turn : Turn) → turn.pass ≡ 1 → turn.is_indeterminate ≡ false → len ≤ turn.index → IsAfter len turn
after-by-place len turn pass list l index below = rw (pass, list) (greater turn.index index (omega arith))

-- it is put behind what is left of the pass
pub put-behind : (len n : ℕ) (turn : Turn) (behind : List Turn) → n ≤ len → IsAfter len turn
    → insert_key turn_order (swept_turns len n ++ behind) turn ≡ swept_turns len n ++ insert_key turn_order behind turn
put-behind len zero turn behind l after = refl
put-behind len (suc n) turn behind l after = rw (after (place_of len n) (omega arith)) (ap (λ turns. first_turn (place_of len n) ∷ turns) (put-behind len n turn behind (omega arith) after))

-- a turn that is left of the pass is there
pub there : (len n index : ℕ) (behind : List Turn) → n ≤ len → len - n ≤ index → index < len
    → insert_key turn_order (swept_turns len n ++ behind) (first_turn index) ≡ swept_turns len n ++ behind
there len zero index behind l from below = absurd (omega arith)
there len (suc n) index behind l from below =
    elim (cases_Bool (index == place_of len n)) [
      | inl e ↦ rw (sym (eqb-true index (place_of len n) e), equal index) refl
      | inr e ↦ rw (greater index (place_of len n) (omega (arith, eqb-false index (place_of len n) e))) (ap (λ turns. first_turn (place_of len n) ∷ turns) (there len n index behind (omega arith) (omega (arith, eqb-false index (place_of len n) e)) below))
    ]

pub there-left : (sweep : Sweep) (turn : Turn) (behind : List Turn) → sweep.rest < sweep.len → IsLeft sweep.len sweep.rest turn
    → swept (Some sweep) ++ behind ≡ insert_key turn_order (swept (Some sweep) ++ behind) turn
there-left sweep turn behind l left =
    sym (there sweep.len (suc sweep.rest) turn.index behind (omega arith) (omega (arith, left.2)) left.3)
    ∙ (λ i. insert_key turn_order (swept (Some sweep) ++ behind) (record { pass = sym left.0 i; is_indeterminate = sym left.1 i; index = turn.index }))

-- an import that wakes while a pass is under way has its turn there, or comes after the pass
pub comes-after : (last : Turn) (import : ImportAt) (turn : Turn) (sweep : Sweep) → import.index < 2 ^ 64 → GoesOnAfter last sweep → WakesAfter last import turn → (IsLeft sweep.len sweep.rest turn → ⊥) → IsAfter sweep.len turn
comes-after last import turn sweep fits on wakes gone = by last.is_indeterminate (is_indeterminate import.list) refl refl
  where
    by_place : turn.pass ≡ 1 → turn.is_indeterminate ≡ false → place_of sweep.len sweep.rest ≤ turn.index → IsAfter sweep.len turn
    by_place pass list from =
        elim (cases_Bool (nat_lt turn.index sweep.len)) [
          | inl e ↦ absurd (gone (pass, list, from, ltb-true turn.index sweep.len e))
          | inr e ↦ after-by-place sweep.len turn pass list (ltb-false turn.index sweep.len e)
        ]

    by : (a b : Bool) → last.is_indeterminate ≡ a → is_indeterminate import.list ≡ b → IsAfter sweep.len turn
    by true false e f =
        let at = on.begins e in
        by_place (wakes.next (rw (e, f) refl) (omega (arith, at.0)) ∙ ap (λ pass. pass + 1) at.0) (wakes.list ∙ f) (omega (arith, at.2))
    by true true e f =
        let at = on.begins e in
        after-by-list sweep.len turn (wakes.next (rw (e, f) (le-ltb last.index import.index (omega (arith, at.1)))) (omega (arith, at.0)) ∙ ap (λ pass. pass + 1) at.0) (wakes.list ∙ f)
    by false true e f = after-by-list sweep.len turn (wakes.now (rw (e, f) refl) ∙ (on.goes_on e).0) (wakes.list ∙ f)
    by false false e f =
        let at = on.goes_on e in
        elim (cases_Bool (nat_lt last.index import.index)) [
          | inl l ↦ by_place (wakes.now (rw (e, f) l) ∙ at.0) (wakes.list ∙ f) (omega (arith, at.1, wakes.place, ltb-true last.index import.index l))
          | inr l ↦ after-by-pass sweep.len turn (omega (arith, wakes.next (rw (e, f) l) (omega (arith, at.0)), at.0))
        ]

pub put-after : (sweep : Sweep) (turn : Turn) (behind : List Turn) → sweep.rest < sweep.len → IsAfter sweep.len turn
    → swept (Some sweep) ++ insert_key turn_order behind turn ≡ insert_key turn_order (swept (Some sweep) ++ behind) turn
put-after sweep turn behind l after = sym (put-behind sweep.len (suc sweep.rest) turn behind (omega arith) after)
