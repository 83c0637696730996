-- What a module binds at a slot, after a write there or elsewhere.
use Rattle.std.specs.Prelude.{◌≡◌, Bool, true, false, cond, Option, Some, None, option_map, List, [], ◌∷◌, refl, ◌⊎◌}
use Rattle.std.proofs.Common.{ap, sym, ◌∙◌, subst, inl, inr}
use Rattle.std.proofs.lemmas.Bool.{cases_Bool}
use Rattle.indexmap.specs.IndexMap.{insert_entry}
use Rattle.def_ids.specs.declared.ids.ModuleId.{ModuleId}
use Rattle.def_ids.specs.declared.ids.TraitId.{TraitId}
use Rattle.def_bindings.specs.declared.bindings.Binding.{Binding}
use Rattle.def_bindings.specs.declared.bindings.Slot.{Slot}
use Rattle.def_bindings.specs.declared.bindings.Slot.TheVariants.{Named, Unnamed}
use Rattle.def_bindings.specs.IdLaws.{both, cases_module, module-refl, name-eq, name-refl, namespace-eq, namespace-refl, trait-eq, trait-refl}
use Rattle.def_bindings.specs.IdLaws.{same_module_equal}
use Rattle.def_bindings.specs.Content.{Content, is_trait, vis_of}
use Rattle.def_bindings.specs.Slots.{is_same_slot, is_same_place}
use Rattle.def_bindings.specs.Puts.{held, fitted, written, unnamed_binding}

pub slot-eq : (x y : Slot) → is_same_slot x y ≡ true → x ≡ y
slot-eq (Named a n) (Named b k) h =
    let p = both _ _ h in
    let e = name-eq a b p.0 in
    let f = namespace-eq n k p.1 in
    cc
slot-eq (Unnamed a) (Unnamed b) h = ap Unnamed (trait-eq a b h)
slot-eq (Named a n) (Unnamed b) h = cc
slot-eq (Unnamed a) (Named b k) h = cc

pub slot-refl : (x : Slot) → is_same_slot x x ≡ true
slot-refl (Named a n) = rw (name-refl a) (namespace-refl n)
slot-refl (Unnamed a) = trait-refl a

-- two places are equal or apart
pub cases_place : (m : ModuleId) (x : Slot) (n : ModuleId) (y : Slot) → ((m ≡ n) × (x ≡ y)) ⊎ (is_same_place m x n y ≡ false)
cases_place m x n y =
    elim (cases_Bool (is_same_place m x n y)) [
      | inl h ↦ inl (same_module_equal m n (both _ _ h).0, slot-eq x y (both _ _ h).1)
      | inr h ↦ inr h
    ]

trait-sym : (a b : TraitId) → is_trait a b ≡ is_trait b a
trait-sym a b =
    elim (cases_Bool (is_trait a b)) [
      | inl h ↦ let e = trait-eq a b h in h ∙ sym (ap (λ z. is_trait b z) e ∙ trait-refl b)
      | inr h ↦ elim (cases_Bool (is_trait b a)) [
        | inl k ↦ let e = trait-eq b a k in absurd (let wrong : false ≡ true = sym h ∙ (ap (λ z. is_trait a z) e ∙ trait-refl a) in cc)
        | inr k ↦ h ∙ sym k
      ]
    ]

-- an unnamed trait's visibility after one is set
pub vis_of-insert_entry : {V : Type 0} (es : List (TraitId × V)) (a : TraitId) (v : V) (b : TraitId) → vis_of (insert_entry is_trait es a v) b ≡ cond (is_trait a b) (Some v) (vis_of es b)
vis_of-insert_entry [] a v b = ap (λ t. cond t (Some v) None) (trait-sym b a)
vis_of-insert_entry (e ∷ es) a v b =
    elim (cases_Bool (is_trait a e.0)) [
      | inl h ↦
          let same : is_trait b e.0 ≡ is_trait a b = ap (λ z. is_trait b z) (sym (trait-eq a e.0 h)) ∙ trait-sym b a in
          rw (h, same) (twice (is_trait a b) (Some v) (Some e.1) (vis_of es b))
      | inr h ↦ rw h (ap (λ o. cond (is_trait b e.0) (Some e.1) o) (vis_of-insert_entry es a v b) ∙ apart a b e.0 (Some v) (Some e.1) (vis_of es b) h)
    ]
  where
    twice : {A : Type 0} (t : Bool) (p q r : A) → cond t p r ≡ cond t p (cond t q r)
    twice true p q r = refl
    twice false p q r = refl

    apart : {A : Type 0} (a b k : TraitId) (p o r : A) → is_trait a k ≡ false → cond (is_trait b k) o (cond (is_trait a b) p r) ≡ cond (is_trait a b) p (cond (is_trait b k) o r)
    apart a b k p o r h =
        elim (cases_Bool (is_trait a b)) [
          | inl e ↦ let f : is_trait b k ≡ false = ap (λ z. is_trait z k) (sym (trait-eq a b e)) ∙ h in rw (e, f) refl
          | inr e ↦ rw e refl
        ]

module _ {V : Type 0} (c : Content V) (m : ModuleId) where
  -- what is written is held from then on
  pub held-written_here : (x : Slot) (b : Binding V) → held (written c m x (Some b)) m x ≡ Some (fitted x b)
  held-written_here (Named a n) b = rw (module-refl m, name-refl a, namespace-refl n) refl
  held-written_here (Unnamed a) b = rw (module-refl m) (ap (option_map (unnamed_binding a)) (vis_of-insert_entry (c.unnamed m) a b.vis a ∙ ap (λ t. cond t (Some b.vis) (vis_of (c.unnamed m) a)) (trait-refl a)))

  held-written_there : (x : Slot) (b : Binding V) (n : ModuleId) (y : Slot) → is_same_place m x n y ≡ false → held (written c m x (Some b)) n y ≡ held c n y
  held-written_there (Named a n) b n' (Named a' k) h = rw h refl
  held-written_there (Named a n) b n' (Unnamed a') h = refl
  held-written_there (Unnamed a) b n' (Named a' k) h = refl
  held-written_there (Unnamed a) b n' (Unnamed a') h =
      elim (cases_module m n') [
        | inl e ↦
            let apart : is_trait a a' ≡ false = rw e.1 at h in
            rw e.1 (ap (option_map (unnamed_binding a')) (vis_of-insert_entry (c.unnamed m) a b.vis a' ∙ ap (λ t. cond t (Some b.vis) (vis_of (c.unnamed m) a')) apart) ∙ ap (λ q. option_map (unnamed_binding a') (vis_of (c.unnamed q) a')) e.0)
        | inr e ↦ rw e refl
      ]

  -- elsewhere a write changes nothing
  pub held-written_elsewhere : (x : Slot) (w : Option (Binding V)) (n : ModuleId) (y : Slot) → is_same_place m x n y ≡ false → held (written c m x w) n y ≡ held c n y
  held-written_elsewhere x None n y h = refl
  held-written_elsewhere x (Some b) n y h = held-written_there x b n y h

  -- a write leaves the edges
  pub edges-written : (x : Slot) (w : Option (Binding V)) → (written c m x w).edges ≡ c.edges
  edges-written x None = refl
  edges-written (Named a n) (Some b) = refl
  edges-written (Unnamed a) (Some b) = refl

  mapped-fitted : (a : TraitId) (b : Binding V) (u : Option V) → option_map (unnamed_binding a) u ≡ Some b → unnamed_binding a b.vis ≡ b
  mapped-fitted a b None h = cc
  mapped-fitted a b (Some v) h = let e : unnamed_binding a v ≡ b = cc in subst (λ (y : Binding V). unnamed_binding a y.vis ≡ y) e refl

  -- what a slot holds fits it
  pub held-fitted : (x : Slot) (b : Binding V) → held c m x ≡ Some b → fitted x b ≡ b
  held-fitted (Named a n) b h = refl
  held-fitted (Unnamed a) b h = mapped-fitted a b (vis_of (c.unnamed m) a) h
