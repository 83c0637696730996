-- Lists of modules that are apart: where each of them stands, and what follows it.
use Rattle.std.specs.Prelude.{◌≡◌, ◌&&◌, ◌≤◌, true, false, not, ℕ, zero, suc, List, [], ◌∷◌, length, Some, slice_get, refl}
use Rattle.std.specs.List.{list_any}
use Rattle.std.proofs.Common.{sym, ◌∙◌, ap, arith, inl, inr, ◌⊎◌}
use Rattle.std.proofs.lemmas.Bool.{cases_Bool, or_cases, or_right, or_left, and_parts, not-true}
use Rattle.def_ids.specs.declared.ids.MapId.{MapId}
use Rattle.def_ids.specs.declared.ids.ModuleId.{ModuleId}
use Rattle.def_ids.specs.Ids.{is_same_map, is_same_module}
use Rattle.def_bindings.specs.Chains.{IsChained}
use Rattle.def_bindings.specs.Tree.{from_module, after_module, are_apart, after_index}
use Rattle.def_bindings.specs.IdLaws.{same_module_itself, same_module_equal}

-- chains that agree on a list keep it chained
pub IsChained-agree : (f g : ModuleId → List ModuleId) (xs : List ModuleId) → ((x : ModuleId) → list_any (is_same_module x) xs ≡ true → f x ≡ g x) → IsChained f xs → IsChained g xs
IsChained-agree f g [] agree h = tt
IsChained-agree f g (x ∷ xs) agree h = (
  sym (agree x (or_left (is_same_module x x) _ (same_module_itself x))) ∙ h.0,
  IsChained-agree f g xs (λ y found. agree y (or_right (is_same_module y x) _ found)) h.1,
)

-- the search in a longer list, for what is not its head
pub from_module-later : (y x : ModuleId) (xs : List ModuleId) → is_same_module x y ≡ false → from_module (y ∷ xs) x ≡ from_module xs x
from_module-later y x xs e = rw e

pub from_module-here : (y x : ModuleId) (xs : List ModuleId) → is_same_module x y ≡ true → from_module (y ∷ xs) x ≡ y ∷ xs
from_module-here y x xs e = rw e

pub apart_parts : (own : MapId) (y : ModuleId) (xs : List ModuleId) → are_apart own (y ∷ xs) ≡ true → (is_same_map y.map own ≡ false) × (list_any (is_same_module y) xs ≡ false) × (are_apart own xs ≡ true)
apart_parts own y xs h =
    let p = and_parts (not (is_same_map y.map own) && not (list_any (is_same_module y) xs)) (are_apart own xs) h in
    let q = and_parts (not (is_same_map y.map own)) (not (list_any (is_same_module y) xs)) p.0 in
    (not-true _ q.0, not-true _ q.1, p.1)

-- what is in a list is not what is not in it
pub differs : (x y : ModuleId) (xs : List ModuleId) → list_any (is_same_module y) xs ≡ false → list_any (is_same_module x) xs ≡ true → is_same_module x y ≡ false
differs x y xs absent found =
    elim (cases_Bool (is_same_module x y)) [
      | inl e ↦
          let same : x ≡ y = same_module_equal x y e in
          let there : list_any (is_same_module y) xs ≡ true = rw (← same) found in
          cc (there, absent)
      | inr e ↦ e
    ]

-- modules that are apart are chained by their list
pub from_module-chained : (own : MapId) (xs : List ModuleId) → are_apart own xs ≡ true → IsChained (from_module xs) xs
from_module-chained own [] h = tt
from_module-chained own (y ∷ xs) h =
    let p = apart_parts own y xs h in (
      from_module-here y y xs (same_module_itself y),
      IsChained-agree (from_module xs) (from_module (y ∷ xs)) xs
          (λ x found. sym (from_module-later y x xs (differs x y xs p.1 found)))
          (from_module-chained own xs p.2),
    )

-- a module of a list that is apart from a map is not of that map
pub apart_outside : (own : MapId) (xs : List ModuleId) → are_apart own xs ≡ true → (x : ModuleId) → list_any (is_same_module x) xs ≡ true → is_same_map x.map own ≡ false
apart_outside own [] h x found = cc
apart_outside own (y ∷ xs) h x found =
    let p = apart_parts own y xs h in
    elim (or_cases (is_same_module x y) (list_any (is_same_module x) xs) found) [
      | inl e ↦ let same : x ≡ y = same_module_equal x y e in rw same p.0
      | inr e ↦ apart_outside own xs p.2 x e
    ]

-- an end of a chained list, or the module alone
pub from_module-end : (chain : ModuleId → List ModuleId) (xs : List ModuleId) (m : ModuleId) → IsChained chain xs → IsChained chain (from_module xs m) ⊎ (from_module xs m ≡ m ∷ [])
from_module-end chain [] m h = inr refl
from_module-end chain (x ∷ xs) m h =
    elim (cases_Bool (is_same_module m x)) [
      | inl e ↦ inl (rw (from_module-here x m xs e) h)
      | inr e ↦ rw (from_module-later x m xs e) (from_module-end chain xs m h.1)
    ]

pub from_module-begins : (xs : List ModuleId) (m : ModuleId) → (rest : List ModuleId) × (from_module xs m ≡ m ∷ rest)
from_module-begins [] m = ([], refl)
from_module-begins (x ∷ xs) m =
    elim (cases_Bool (is_same_module m x)) [
      | inl e ↦ (xs, from_module-here x m xs e ∙ ap (λ y. y ∷ xs) (sym (same_module_equal m x e)))
      | inr e ↦ let t = from_module-begins xs m in (t.0, from_module-later x m xs e ∙ t.1)
    ]

pub length-from_module : (xs : List ModuleId) (m : ModuleId) → length (from_module xs m) ≤ suc (length xs)
length-from_module [] m = omega arith
length-from_module (x ∷ xs) m =
    elim (cases_Bool (is_same_module m x)) [
      | inl e ↦ rw (from_module-here x m xs e) (omega arith)
      | inr e ↦ let h = length-from_module xs m in rw (from_module-later x m xs e) (omega arith)
    ]

-- an element of a list is in it
pub found_at : (xs : List ModuleId) (i : ℕ) (m : ModuleId) → slice_get xs i ≡ Some m → list_any (is_same_module m) xs ≡ true
found_at [] i m e = cc
found_at (x ∷ xs) zero m e = let same : x ≡ m = cc in or_left (is_same_module m x) _ (rw same (same_module_itself m))
found_at (x ∷ xs) (suc i) m e = or_right (is_same_module m x) _ (found_at xs i m e)

-- what follows a module is at the place after it
pub after_index-module : (xs : List ModuleId) (m : ModuleId) → slice_get xs (after_index xs m) ≡ after_module xs m
after_index-module [] m = refl
after_index-module (x ∷ xs) m =
    elim (cases_Bool (is_same_module m x)) [ inl e ↦ rw e refl | inr e ↦ rw e (after_index-module xs m) ]

pub after_index-at : (own : MapId) (xs : List ModuleId) → are_apart own xs ≡ true → (i : ℕ) (m : ModuleId) → slice_get xs i ≡ Some m → after_index xs m ≡ suc i
after_index-at own [] h i m e = cc
after_index-at own (x ∷ xs) h zero m e = let same : x ≡ m = cc in rw (same, same_module_itself m) refl
after_index-at own (x ∷ xs) h (suc i) m e =
    let p = apart_parts own x xs h in
    rw (differs m x xs p.1 (found_at xs i m e)) (ap suc (after_index-at own xs p.2 i m e))
