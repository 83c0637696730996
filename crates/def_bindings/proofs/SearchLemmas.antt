-- Searches from one place of a list to the next.
use Rattle.std.proofs.Common.{◌≡◌, ℕ, zero, suc, ◌+◌, ◌<◌, true, false, List, [], ◌∷◌, Some, None, refl, sym, ap, ◌∙◌, slice_get, drop, length, arith}
use Rattle.std.proofs.lemmas.Option.{slice_get_within}
use Rattle.def_ids.specs.declared.ids.ModuleId.{ModuleId}
use Rattle.def_ids.specs.declared.ids.TraitId.{TraitId}
use Rattle.def_ids.specs.Ids.{is_same_module}
use Rattle.def_bindings.specs.declared.bindings.EdgeTo.{EdgeTo}
use Rattle.def_bindings.specs.Content.{is_trait, vis_of}
use Rattle.def_bindings.specs.Puts.{edge_to}

-- a place that has an element is in the list
pub is_within : {X : Type 0} (xs : List X) (i : ℕ) (x : X) → Some x ≡ slice_get xs i → i < length xs
is_within xs i x at = slice_get_within xs i x (sym at)

drop_at : {X : Type 0} (xs : List X) (i : ℕ) (x : X) → slice_get xs i ≡ Some x → drop i xs ≡ x ∷ drop (i + 1) xs
drop_at xs i x at = by xs i at ∙ ap (λ k. x ∷ drop k xs) (next_is i)
  where
    next_is : (i : ℕ) → suc i ≡ i + 1
    next_is i = omega arith

    by : (xs : List _) (i : ℕ) → slice_get xs i ≡ Some x → drop i xs ≡ x ∷ drop (suc i) xs
    by [] i h = cc
    by (y ∷ ys) zero h = let same : y ≡ x = cc in ap (λ z. z ∷ ys) same
    by (y ∷ ys) (suc i) h = by ys i h

drop_end : {X : Type 0} (xs : List X) (i : ℕ) → slice_get xs i ≡ None → drop i xs ≡ []
drop_end [] zero h = refl
drop_end [] (suc i) h = refl
drop_end (y ∷ ys) zero h = cc
drop_end (y ∷ ys) (suc i) h = drop_end ys i h

module _ {V : Type 0} (items : List (TraitId × V)) (item : TraitId) (i : ℕ) where
  -- the item is here
  pub vis-here : (here : TraitId) (vis : V) → Some (here, vis) ≡ slice_get items i → vis_of (drop i items) item ≡ vis_of items item → is_trait item here ≡ true → Some vis ≡ vis_of items item
  vis-here here vis at so_far same = sym (ap (λ l. vis_of l item) (drop_at items i (here, vis) (sym at)) ∙ found) ∙ so_far
    where
      found : vis_of ((here, vis) ∷ drop (i + 1) items) item ≡ Some vis
      found = rw same refl

  -- it is not here
  pub vis-later : (here : TraitId) (vis : V) → Some (here, vis) ≡ slice_get items i → vis_of (drop i items) item ≡ vis_of items item → is_trait item here ≡ false → vis_of (drop (i + 1) items) item ≡ vis_of items item
  vis-later here vis at so_far other = sym (ap (λ l. vis_of l item) (drop_at items i (here, vis) (sym at)) ∙ passed) ∙ so_far
    where
      passed : vis_of ((here, vis) ∷ drop (i + 1) items) item ≡ vis_of (drop (i + 1) items) item
      passed = rw other refl

  -- it is nowhere
  pub vis-nowhere : None ≡ slice_get items i → vis_of (drop i items) item ≡ vis_of items item → None ≡ vis_of items item
  vis-nowhere at so_far = sym (ap (λ l. vis_of l item) (drop_end items i (sym at))) ∙ so_far

module _ {V : Type 0} (edges : List (EdgeTo V)) (importer : ModuleId) (i : ℕ) where
  -- the edge is here
  pub edge-here : (e : EdgeTo V) → Some e ≡ slice_get edges i → edge_to (drop i edges) importer ≡ edge_to edges importer → is_same_module e.importer importer ≡ true → Some e ≡ edge_to edges importer
  edge-here e at so_far same = sym (ap (λ l. edge_to l importer) (drop_at edges i e (sym at)) ∙ found) ∙ so_far
    where
      found : edge_to (e ∷ drop (i + 1) edges) importer ≡ Some e
      found = rw same refl

  -- it is not here
  pub edge-later : (e : EdgeTo V) → Some e ≡ slice_get edges i → edge_to (drop i edges) importer ≡ edge_to edges importer → is_same_module e.importer importer ≡ false → edge_to (drop (i + 1) edges) importer ≡ edge_to edges importer
  edge-later e at so_far other = sym (ap (λ l. edge_to l importer) (drop_at edges i e (sym at)) ∙ passed) ∙ so_far
    where
      passed : edge_to (e ∷ drop (i + 1) edges) importer ≡ edge_to (drop (i + 1) edges) importer
      passed = rw other refl

  -- it is nowhere
  pub edge-nowhere : None ≡ slice_get edges i → edge_to (drop i edges) importer ≡ edge_to edges importer → None ≡ edge_to edges importer
  edge-nowhere at so_far = sym (ap (λ l. edge_to l importer) (drop_end edges i (sym at))) ∙ so_far
