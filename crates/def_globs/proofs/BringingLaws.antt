-- What a glob binds after puts it bound before, or an entry by it brought it to a vacant place.
use Rattle.std.specs.Prelude.{◌≡◌, Option, Some, None, List, [], ◌∷◌, ◌⊎◌, refl}
use Rattle.std.proofs.Common.{sym, ap, ◌∙◌, subst, inl, inr}
use Rattle.tree_ids.specs.declared.name.Name.{Name}
use Rattle.def_ids.specs.declared.ids.ModuleId.{ModuleId}
use Rattle.def_ids.specs.declared.ids.GlobId.{GlobId}
use Rattle.def_bindings.specs.declared.bindings.Namespace.{Namespace}
use Rattle.def_bindings.specs.declared.bindings.ImportOrExternCrate.TheVariants.{Glob}
use Rattle.def_bindings.specs.declared.bindings.Binding.{Binding}
use Rattle.def_bindings.specs.declared.bindings.Entry.{Entry}
use Rattle.def_bindings.specs.declared.bindings.Slot.{Slot}
use Rattle.def_bindings.specs.declared.bindings.Slot.TheVariants.{Named}
use Rattle.def_bindings.specs.Order.{Order}
use Rattle.def_bindings.specs.Content.{Content}
use Rattle.def_bindings.specs.Puts.{glob_of, held, settled, put, put_at, put_entry, puts, slot_of, offered}
use Rattle.def_globs.specs.Waves.{HoldsBy, Brings}
use Rattle.def_globs.proofs.ListLaws.{first_in, later_in}
use Rattle.def_bindings.specs.HeldLaws.{cases_place}
use Rattle.def_globs.proofs.SettlingLaws.{raised, replaced, settled_cases, glob_of-some}
use Rattle.def_globs.proofs.PuttingLaws.{settled_any, Placed, put_cases, bound_put}

by_glob_over : {V : Type 0} (o : Order V) (t offer now : Binding V) (g : GlobId) (q : Option GlobId) → glob_of offer.import ≡ q → settled o (Some t) offer ≡ Some now
    → now.import ≡ Some (Glob g) → t.import ≡ Some (Glob g)
by_glob_over o t offer now g (Some h) i e by =
    let r = settled_cases o t offer now h (glob_of-some offer.import h i) e in
    elim r.2 [
      | raised d rise f ↦ sym (ap (λ z. z.import) f) ∙ by
      | replaced d same f ↦
          let of : Some (Glob h) ≡ Some (Glob g) = sym (glob_of-some offer.import h i) ∙ (sym (ap (λ z. z.import) f) ∙ by) in
          r.1 ∙ (ap (λ z. Some (Glob z)) same ∙ of)
    ]
by_glob_over o t offer now g None i e by =
    elim (settled_any o (Some t) offer now e) [
      | inl f ↦ let of : None ≡ Some g = sym i ∙ ap glob_of (sym (ap (λ z. z.import) f) ∙ by) in cc
      | inr f ↦ let same : t ≡ f.0 = let s = f.1 in cc in ap (λ z. z.import) same ∙ (sym (ap (λ z. z.import) f.2) ∙ by)
    ]

-- a binding by a glob that is there after an offer was there before, or the offer is by that glob and the place was vacant
by_glob : {V : Type 0} (o : Order V) (offer now : Binding V) (g : GlobId) (there : Option (Binding V)) → settled o there offer ≡ Some now → now.import ≡ Some (Glob g)
    → ((t : Binding V) × (there ≡ Some t) × (t.import ≡ Some (Glob g))) ⊎ ((there ≡ None) × (offer.import ≡ Some (Glob g)))
by_glob o offer now g None e by = let f : offer ≡ now = cc in inr (refl, ap (λ z. z.import) f ∙ by)
by_glob o offer now g (Some t) e by = inl (t, refl, by_glob_over o t offer now g (glob_of offer.import) refl e by)

module _ {V : Type 0} (o : Order V) (m : ModuleId) where
  globs_put : (x : Option Slot) (offer : Binding V) (c : Content V) (n : ModuleId) (name : Name) (ns : Namespace) (g : GlobId) → HoldsBy (put_at o m x offer c) n name ns g
      → HoldsBy c n name ns g ⊎ ((n ≡ m) × (x ≡ Some (Named name ns)) × (offer.import ≡ Some (Glob g)) × (c.binding n name ns ≡ None))
  globs_put None offer c n name ns g h = inl h
  globs_put (Some x) offer c n name ns g h =
      elim (put_cases o m x offer c) [
        | inl still ↦ inl (subst (λ d. HoldsBy d n name ns g) still.1 h)
        | inr placed ↦ elim (cases_place m x n (Named name ns)) [
          | inr apart ↦ inl (h.0, sym (placed.1.elsewhere n (Named name ns) apart) ∙ h.1, h.2)
          | inl here ↦
              let at : Placed o m (Named name ns) offer c (put o c m x offer) = subst (λ y. Placed o m y offer c (put o c m x offer)) here.1 placed.1 in
              let f : Some at.now ≡ Some h.0 = sym at.now_is ∙ (ap (λ z. held (put o c m x offer) z (Named name ns)) here.0 ∙ h.1) in
              let is_b : at.now ≡ h.0 = cc in
              let same : c.binding m name ns ≡ c.binding n name ns = ap (λ z. c.binding z name ns) here.0 in
              elim (by_glob o offer at.now g (c.binding m name ns) at.settles (ap (λ z. z.import) is_b ∙ h.2)) [
                | inl old ↦ inl (old.0, sym same ∙ old.1, old.2)
                | inr new ↦ inr (sym here.0, ap Some here.1, new.1, sym same ∙ new.0)
              ]
        ]
      ]

  -- a place that is vacant after a put was vacant before
  vacant_put : (x : Option Slot) (offer : Binding V) (c : Content V) (n : ModuleId) (y : Slot) (there : Option (Binding V)) → held c n y ≡ there → held (put_at o m x offer c) n y ≡ None → held c n y ≡ None
  vacant_put x offer c n y None i h = i
  vacant_put x offer c n y (Some b) i h = let bound = bound_put o m x offer c n y (b, i) in cc (bound.1)

  -- what a glob binds after puts it bound before, or an entry by it brought it to a vacant place
  pub globs_puts : (list : List (Entry V)) (c : Content V) (n : ModuleId) (name : Name) (ns : Namespace) (g : GlobId) → HoldsBy (puts o m list c) n name ns g
      → HoldsBy c n name ns g ⊎ ((n ≡ m) × Brings list c n name ns g)
  globs_puts [] c n name ns g h = inl h
  globs_puts (e ∷ es) c n name ns g h =
      elim (globs_puts es (put_entry o m e c) n name ns g h) [
        | inl before ↦ elim (globs_put (slot_of e) (offered e) c n name ns g before) [
          | inl old ↦ inl old
          | inr new ↦ inr (new.0, record { entry = e; listed = first_in e es; slot = new.1; by = new.2; vacant = new.3 })
        ]
        | inr brought ↦ inr (
          brought.0,
          record {
            entry = brought.1.entry;
            listed = later_in e es brought.1.entry brought.1.listed;
            slot = brought.1.slot;
            by = brought.1.by;
            vacant = vacant_put (slot_of e) (offered e) c n (Named name ns) (c.binding n name ns) refl brought.1.vacant;
          },
        )
      ]
