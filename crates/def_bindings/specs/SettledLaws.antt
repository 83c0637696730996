-- What an offer makes of a place, and what stays where it is written.
use Rattle.std.specs.Prelude.{◌≡◌, Bool, true, false, cond, Option, Some, None, refl, ◌⊎◌}
use Rattle.std.proofs.Common.{ap, sym, ◌∙◌, inl, inr}
use Rattle.tree_ids.specs.declared.name.Name.{Name}
use Rattle.def_ids.specs.declared.ids.ModuleId.{ModuleId}
use Rattle.def_ids.specs.declared.ids.GlobId.{GlobId}
use Rattle.def_ids.specs.Equality.{def_eq, glob_eq}
use Rattle.def_bindings.specs.declared.bindings.Namespace.{Namespace}
use Rattle.def_bindings.specs.declared.bindings.Binding.{Binding}
use Rattle.def_bindings.specs.declared.bindings.Slot.{Slot}
use Rattle.def_bindings.specs.declared.bindings.Slot.TheVariants.{Named}
use Rattle.def_bindings.specs.Order.{Order, rises_to}
use Rattle.def_bindings.specs.Content.{Content}
use Rattle.def_bindings.specs.Closure.{IsBound}
use Rattle.def_bindings.specs.HeldLaws.{cases_place, held-written_here, held-written_elsewhere}
use Rattle.def_bindings.specs.Puts.{IsExplicit, glob_of, held, fitted, settled, settled_over, written}

module _ {V : Type 0} (o : Order V) where
  -- nothing replaces an explicit binding
  pub settled-explicit : (there offer : Binding V) → IsExplicit there.import → settled o (Some there) offer ≡ None
  settled-explicit there offer h = ap (λ g. settled_over o there offer g (glob_of offer.import)) h

  -- an explicit binding replaces that of a glob
  pub settled-yields : (there offer : Binding V) (glob : GlobId) → glob_of there.import ≡ Some glob → IsExplicit offer.import → settled o (Some there) offer ≡ Some offer
  settled-yields there offer glob g h = ap (λ q. settled_over o there offer q (glob_of offer.import)) g ∙ ap (λ q. settled_over o there offer (Some glob) q) h

  by_glob : (there offer a : Binding V) (g h : GlobId) (same rises one : Bool) → glob_of there.import ≡ Some g → IsExplicit a.import
      → cond same (cond rises (Some (record there { vis = offer.vis })) None) (cond one (Some offer) None) ≡ Some a → a ≡ offer
  by_glob there offer a g h true true one brought explicit e =
      let kept : record there { vis = offer.vis } ≡ a = cc in
      let brought_a : glob_of a.import ≡ Some g = ap (λ (y : Binding V). glob_of y.import) (sym kept) ∙ brought in
      let wrong : None ≡ Some g = sym explicit ∙ brought_a in
      cc
  by_glob there offer a g h true false one brought explicit e = cc
  by_glob there offer a g h false rises true brought explicit e = cc
  by_glob there offer a g h false rises false brought explicit e = cc

  over_explicit : (there offer a : Binding V) (p q : Option GlobId) → glob_of there.import ≡ p → IsExplicit a.import → settled_over o there offer p q ≡ Some a → a ≡ offer
  over_explicit there offer a None q brought explicit e = cc
  over_explicit there offer a (Some g) None brought explicit e = cc
  over_explicit there offer a (Some g) (Some h) brought explicit e =
      by_glob there offer a g h (def_eq there.def offer.def) (rises_to o there.vis offer.vis) (glob_eq g h) brought explicit e

  -- what is explicit once it is settled was offered
  pub settled-explicit_offer : (there : Option (Binding V)) (offer a : Binding V) → settled o there offer ≡ Some a → IsExplicit a.import → a ≡ offer
  settled-explicit_offer None offer a e explicit = cc
  settled-explicit_offer (Some there) offer a e explicit = over_explicit there offer a (glob_of there.import) (glob_of offer.import) refl explicit e

module _ {V : Type 0} (c : Content V) (at : ModuleId) (slot : Slot) where
  -- a write leaves what is bound bound
  pub bound-written : (w : Option (Binding V)) (m : ModuleId) (y : Slot) → IsBound c m y → IsBound (written c at slot w) m y
  bound-written None m y bound = bound
  bound-written (Some b) m y bound =
      elim (cases_place at slot m y) [
        | inl here ↦ (fitted slot b, ap (λ q. held (written c at slot (Some b)) q y) (sym here.0) ∙ (ap (λ z. held (written c at slot (Some b)) at z) (sym here.1) ∙ held-written_here c at slot b))
        | inr apart ↦ (bound.0, held-written_elsewhere c at slot (Some b) m y apart ∙ bound.1)
      ]

  -- and what is written is bound
  pub bound-written_here : (b : Binding V) → IsBound (written c at slot (Some b)) at slot
  bound-written_here b = (fitted slot b, held-written_here c at slot b)

module _ {V : Type 0} (o : Order V) (c : Content V) (at : ModuleId) (slot : Slot) (offer : Binding V) where
  -- an explicit binding stays where an offer is settled
  pub explicit_stays-settled : (m : ModuleId) (name : Name) (ns : Namespace) (b : Binding V) → c.binding m name ns ≡ Some b → IsExplicit b.import
      → (written c at slot (settled o (held c at slot) offer)).binding m name ns ≡ Some b
  explicit_stays-settled m name ns b there explicit =
      elim (cases_place at slot m (Named name ns)) [
        | inl here ↦
            let held_b : held c at slot ≡ Some b = ap (λ q. held c q slot) here.0 ∙ (ap (λ z. held c m z) here.1 ∙ there) in
            let none : settled o (held c at slot) offer ≡ None = ap (λ h. settled o h offer) held_b ∙ settled-explicit o b offer explicit in
            ap (λ w. (written c at slot w).binding m name ns) none ∙ there
        | inr apart ↦ held-written_elsewhere c at slot (settled o (held c at slot) offer) m (Named name ns) apart ∙ there
      ]

  from_settled : (w : Option (Binding V)) → settled o (held c at slot) offer ≡ w → (m : ModuleId) (name : Name) (ns : Namespace) (b : Binding V)
      → (written c at slot w).binding m name ns ≡ Some b → IsExplicit b.import
      → (c.binding m name ns ≡ Some b) ⊎ ((m ≡ at) × (slot ≡ Named name ns) × (b ≡ offer))
  from_settled None is m name ns b now explicit = inl now
  from_settled (Some a) is m name ns b now explicit =
      elim (cases_place at slot m (Named name ns)) [
        | inl here ↦
            let now_here : held (written c at slot (Some a)) m (Named name ns) ≡ Some (fitted (Named name ns) a) =
            ap (λ q. held (written c at slot (Some a)) q (Named name ns)) (sym here.0) ∙ (ap (λ z. held (written c at slot (Some a)) at z) (sym here.1) ∙ (held-written_here c at slot a ∙ ap (λ z. Some (fitted z a)) here.1)) in
            let same : a ≡ b = let twice : Some a ≡ Some b = sym now_here ∙ now in cc in
            let explicit_a : IsExplicit a.import = ap (λ (y : Binding V). glob_of y.import) same ∙ explicit in
            inr (sym here.0, here.1, sym same ∙ settled-explicit_offer o (held c at slot) offer a is explicit_a)
        | inr apart ↦ inl (sym (held-written_elsewhere c at slot (Some a) m (Named name ns) apart) ∙ now)
      ]

  -- an explicit binding that is there once an offer is settled was there before, or is the offer
  pub explicit_from-settled : (m : ModuleId) (name : Name) (ns : Namespace) (b : Binding V) → (written c at slot (settled o (held c at slot) offer)).binding m name ns ≡ Some b → IsExplicit b.import
      → (c.binding m name ns ≡ Some b) ⊎ ((m ≡ at) × (slot ≡ Named name ns) × (b ≡ offer))
  explicit_from-settled m name ns b now explicit = from_settled (settled o (held c at slot) offer) refl m name ns b now explicit
