-- Closed and coherent but for what is pending, over one copy and over the copies along one edge.
use Rattle.std.proofs.Common.{◌≡◌, ℕ, Bool, true, Option, Some, None, List, refl, sym, ap, ◌∙◌, subst, inl, inr, ◌⊎◌}
use Rattle.std.specs.Prelude.{slice_get}
use Rattle.def_ids.specs.declared.ids.ModuleId.{ModuleId}
use Rattle.def_bindings.specs.declared.bindings.Binding.{Binding}
use Rattle.def_bindings.specs.declared.bindings.EdgeTo.{EdgeTo}
use Rattle.def_bindings.specs.declared.bindings.Slot.{Slot}
use Rattle.def_bindings.specs.Order.{Order}
use Rattle.def_bindings.specs.Content.{Content}
pub use Rattle.def_globs.specs.Pending.{Pending, ClosedBut}
use Rattle.def_bindings.specs.Puts.{held, settled, copied}
use Rattle.def_globs.specs.Pending.{is_changed}
use Rattle.def_bindings.specs.HeldLaws.{cases_place}
use Rattle.def_globs.proofs.CopyingLaws.{Moved, Still, copy_cases}

-- the copy's own work is done, and what it changes is pending
pub record Passes (P P' : Pending) (source : ModuleId) (index : ℕ) (x : Slot) (importer : ModuleId) (changed : Bool) : Type 0 where
  pub keeps : (m : ModuleId) (j : ℕ) (y : Slot) → P m j y → P' m j y ⊎ ((m ≡ source) × (j ≡ index) × (y ≡ x))
  pub adds : changed ≡ true → (j : ℕ) → P' importer j x

settled_none : {V : Type 0} (o : Order V) (there : Option (Binding V)) (offer : Binding V) → settled o there offer ≡ None → (b : Binding V) × (there ≡ Some b)
settled_none o None offer h = cc
settled_none o (Some b) offer h = (b, refl)

pub closed_still : {V : Type 0} (o : Order V) (left_out : ModuleId → Bool) (P P' : Pending) (s : ModuleId) (k : ℕ) (e : EdgeTo V) (x : Slot) (c : Content V) (changed : Bool)
    → slice_get (c.edges s) k ≡ Some e → Passes P P' s k x e.importer changed
    → Still o s e x c c → ClosedBut o left_out P c → ClosedBut o left_out P' c
closed_still o left_out P P' s k e x c changed at passes still closed s' k' e' x' b' at' left held' seen =
    elim (closed s' k' e' x' b' at' left held' seen) [
      | inl bound ↦ inl bound
      | inr p ↦ elim (passes.keeps s' k' x' p) [
        | inl p' ↦ inr p'
        | inr q ↦
            let m : s' ≡ s = q.0 in
            let i : k' ≡ k = q.1 in
            let y : x' ≡ x = q.2 in
            let same : e' ≡ e = let f : Some e' ≡ Some e = sym at' ∙ (ap (λ n. slice_get (c.edges n) k') m ∙ (ap (λ n. slice_get (c.edges s) n) i ∙ at)) in cc in
            let own : held c s x ≡ Some b' = ap (λ n. held c n x) (sym m) ∙ (ap (λ n. held c s' n) (sym y) ∙ held') in
            let vis : o.can_see e.importer b'.vis ≡ true = ap (λ (n : EdgeTo _). o.can_see n.importer b'.vis) (sym same) ∙ seen in
            let there = settled_none o _ _ (still.refused b' own vis) in
            inl (there.0, ap (λ (n : EdgeTo _). held c n.importer x') same ∙ (ap (λ n. held c e.importer n) y ∙ there.1))
      ]
    ]

pub closed_moved : {V : Type 0} (o : Order V) (left_out : ModuleId → Bool) (P P' : Pending) (s : ModuleId) (k : ℕ) (e : EdgeTo V) (x : Slot) (c c' : Content V)
    → slice_get (c.edges s) k ≡ Some e → Passes P P' s k x e.importer true
    → Moved o s e x c c' → ClosedBut o left_out P c → ClosedBut o left_out P' c'
closed_moved o left_out P P' s k e x c c' at passes moved closed s' k' e' x' b' at' left held' seen =
    elim (cases_place e.importer x s' x') [
      | inl here ↦ inr (subst (λ m. P' m k' x') here.0 (subst (λ y. P' e.importer k' y) here.1 (passes.adds refl k')))
      | inr there ↦
          let was_at : slice_get (c.edges s') k' ≡ Some e' = ap (λ (f : ModuleId → List (EdgeTo _)). slice_get (f s') k') (sym moved.same_edges) ∙ at' in
          let was : held c s' x' ≡ Some b' = sym (moved.elsewhere s' x' there) ∙ held' in
          elim (cases_place e.importer x e'.importer x') [
            | inl now ↦ inl (moved.now, ap (λ m. held c' m x') (sym now.0) ∙ (ap (λ y. held c' e.importer y) (sym now.1) ∙ moved.now_is))
            | inr apart ↦
                elim (closed s' k' e' x' b' was_at left was seen) [
                  | inl bound ↦ inl (bound.0, moved.elsewhere e'.importer x' apart ∙ bound.1)
                  | inr p ↦ elim (passes.keeps s' k' x' p) [
                    | inl p' ↦ inr p'
                    | inr q ↦
                        let same : e' ≡ e = let f : Some e' ≡ Some e = sym was_at ∙ (ap (λ n. slice_get (c.edges n) k') q.0 ∙ (ap (λ n. slice_get (c.edges s) n) q.1 ∙ at)) in cc in
                        inl (moved.now, ap (λ (n : EdgeTo _). held c' n.importer x') same ∙ (ap (λ n. held c' e.importer n) q.2 ∙ moved.now_is))
                  ]
                ]
          ]
    ]

pub closed_copied : {V : Type 0} (o : Order V) (left_out : ModuleId → Bool) (P P' : Pending) (s : ModuleId) (k : ℕ) (e : EdgeTo V) (x : Slot) (c : Content V)
    → slice_get (c.edges s) k ≡ Some e → Passes P P' s k x e.importer (is_changed o s e x c)
    → ClosedBut o left_out P c → ClosedBut o left_out P' (copied o s e x c)
closed_copied o left_out P P' s k e x c at passes closed =
    elim (copy_cases o s e x c) [
      | inl still ↦
          let self : Still o s e x c c = record { same = refl; refused = still.1.refused } in
          subst (λ d. ClosedBut o left_out P' d) (sym still.1.same) (closed_still o left_out P P' s k e x c (is_changed o s e x c) at passes self closed)
      | inr moved ↦
          closed_moved o left_out P P' s k e x c (copied o s e x c) at
          (record { keeps = passes.keeps; adds = λ _ j. passes.adds moved.0 j }) moved.1 closed
    ]
