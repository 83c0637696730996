-- Parents stay lower where a module is added.
use Rattle.std.specs.Prelude.{◌≡◌, ◌<◌, ◌++◌, ℕ, zero, suc, List, [], ◌∷◌, length, Option, Some, refl}
use Rattle.std.specs.Prelude.{OnOk, OnErr, Result, Ok, Err}
use Rattle.std.proofs.Common.{subst, sym, ap, arith, inl, inr, ◌⊎◌}
use Rattle.def_bindings.specs.Tree.{parent_of, AreParentsLower}

-- what stands at a place after a push
push-place : (parents : List (Option ℕ)) (last : Option ℕ) (i p : ℕ) → parent_of (parents ++ last ∷ []) i ≡ Some p → (parent_of parents i ≡ Some p) ⊎ ((i ≡ length parents) × (last ≡ Some p))
push-place [] last zero p e = inr (refl, e)
push-place [] last (suc i) p e = cc
push-place (x ∷ parents) last zero p e = inl e
push-place (x ∷ parents) last (suc i) p e =
    elim (push-place parents last i p e) [ inl h ↦ inl h | inr h ↦ inr (ap suc h.0, h.1) ]

-- a module whose parent is there goes on top
pub push-lower : (parents : List (Option ℕ)) (parent : ℕ) → AreParentsLower parents → parent < length parents → AreParentsLower (parents ++ Some parent ∷ [])
push-lower parents parent lower l i p e =
    elim (push-place parents (Some parent) i p e) [
      | inl h ↦ lower i p h
      | inr h ↦ let same : parent ≡ p = cc (h.1) in omega (arith, h.0, same)
    ]

-- the same after a push that may be refused
pub push-lower-either : {A E : Type 0} (r : Result A E) (old new : List (Option ℕ)) (parent : ℕ) → OnOk r (new ≡ old ++ Some parent ∷ []) → OnErr r (new ≡ old) → AreParentsLower old → parent < length old → AreParentsLower new
push-lower-either (Ok x) old new parent ok err lower l = let P : List (Option ℕ) → Type 0 = AreParentsLower in subst P (sym ok) (push-lower old parent lower l)
push-lower-either (Err x) old new parent ok err lower l = let P : List (Option ℕ) → Type 0 = AreParentsLower in subst P (sym err) lower
