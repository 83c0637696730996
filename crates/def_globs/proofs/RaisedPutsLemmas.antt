-- Raised but for what is pending, over one put and over the puts of a list.
use Rattle.std.proofs.Common.{◌≡◌, ℕ, Bool, true, false, cond, Option, Some, None, List, [], ◌∷◌, refl, sym, ap, ◌∙◌, subst, inl, inr, ◌⊎◌}
use Rattle.std.specs.Prelude.{slice_get, Contains}
use Rattle.std.proofs.lemmas.Bool.{false≢true}
use Rattle.std.proofs.lemmas.List.Elements.{Contains-append_left, Contains-append_right}
use Rattle.def_ids.specs.declared.ids.ModuleId.{ModuleId}
use Rattle.def_ids.specs.declared.ids.GlobId.{GlobId}
use Rattle.def_ids.specs.Equality.{def_eq}
use Rattle.def_bindings.specs.declared.bindings.ImportOrExternCrate.TheVariants.{Glob}
use Rattle.def_bindings.specs.declared.bindings.Binding.{Binding}
use Rattle.def_bindings.specs.declared.bindings.EdgeTo.{EdgeTo}
use Rattle.def_bindings.specs.declared.bindings.Entry.{Entry}
use Rattle.def_bindings.specs.declared.bindings.Slot.{Slot}
use Rattle.def_bindings.specs.declared.bindings.Slot.TheVariants.{Named, Unnamed}
use Rattle.def_bindings.specs.Order.{Order, IsPartialOrder, rises_to}
use Rattle.def_bindings.specs.Content.{Content}
use Rattle.def_bindings.specs.Puts.{held, fitted, glob_of, settled, settled_over, carried, put, put_at, put_entry, puts, slot_of, offered}
use Rattle.def_bindings.specs.DefLaws.{def-eq, def-refl}
use Rattle.def_bindings.specs.HeldLaws.{cases_place}
use Rattle.def_globs.specs.Pending.{Pending, ClosedBut, changed_at, changed_by}
use Rattle.def_globs.specs.Raised.{KeepsDef, KeepsDefs, RaisedBut}
use Rattle.def_globs.proofs.SettlingLaws.{Settled, raised, replaced, settled_cases, glob_of-some}
use Rattle.def_globs.proofs.PuttingLaws.{Placed, put_cases}
use Rattle.def_globs.proofs.RaisingLemmas.{rises_less}
use Rattle.def_globs.proofs.PlacedLemmas.{closed_put, in_changed}

-- what is by a glob after an offer over something is raised, or replaced by a glob's offer
explicit_over : {V : Type 0} (o : Order V) (t offer a : Binding V) (p : Option GlobId) (g : GlobId) → settled_over o t offer p None ≡ Some a → glob_of offer.import ≡ None → a.import ≡ Some (Glob g) → ⊥
explicit_over o t offer a None g e i by = cc
explicit_over o t offer a (Some k) g e i by =
    let f : offer ≡ a = cc in
    let wrong : None ≡ Some g = sym i ∙ ap glob_of (ap (λ (z : Binding _). z.import) f ∙ by) in
    cc

pub settled_glob : {V : Type 0} (o : Order V) (t offer a : Binding V) (g : GlobId) (q : Option GlobId) → glob_of offer.import ≡ q → settled o (Some t) offer ≡ Some a → a.import ≡ Some (Glob g)
    → (h : GlobId) × ((k : GlobId) × (t.import ≡ Some (Glob k)) × Settled o t offer a k h)
settled_glob o t offer a g (Some h) i e by = (h, settled_cases o t offer a h (glob_of-some offer.import h i) e)
settled_glob o t offer a g None i e by =
    absurd (explicit_over o t offer a (glob_of t.import) g (subst (λ z. settled_over o t offer (glob_of t.import) z ≡ Some a) i e) i by)

-- a place that changes has the offer's definition
three_def : {V : Type 0} (there offer a : Binding V) (p q r : Bool) → def_eq there.def offer.def ≡ p
    → cond p (cond q (Some (record there { vis = offer.vis })) None) (cond r (Some offer) None) ≡ Some a → a.def ≡ offer.def
three_def there offer a true true r i e = let f : record there { vis = offer.vis } ≡ a = cc in ap (λ (z : Binding _). z.def) (sym f) ∙ def-eq _ _ i
three_def there offer a true false r i e = cc
three_def there offer a false q true i e = let f : offer ≡ a = cc in ap (λ (z : Binding _). z.def) (sym f)
three_def there offer a false q false i e = cc

over_def : {V : Type 0} (o : Order V) (there offer a : Binding V) (p q : Option GlobId) → settled_over o there offer p q ≡ Some a → a.def ≡ offer.def
over_def o there offer a (Some g) (Some h) e = three_def there offer a _ _ _ refl e
over_def o there offer a (Some g) None e = let f : offer ≡ a = cc in ap (λ (z : Binding _). z.def) (sym f)
over_def o there offer a None q e = cc

settled_def_any : {V : Type 0} (o : Order V) (there : Option (Binding V)) (offer a : Binding V) → settled o there offer ≡ Some a → a.def ≡ offer.def
settled_def_any o None offer a e = let f : offer ≡ a = cc in ap (λ (z : Binding _). z.def) (sym f)
settled_def_any o (Some t) offer a e = over_def o t offer a (glob_of t.import) (glob_of offer.import) e

-- what is held after a put was held before, or has the offer's definition
pub held_after : {V : Type 0} (o : Order V) (m : ModuleId) (x : Option Slot) (offer : Binding V) (c : Content V) (i : ModuleId) (y : Slot) (t : Binding V) → held (put_at o m x offer c) i y ≡ Some t
    → (held c i y ≡ Some t) ⊎ ((x ≡ Some y) × (t.def ≡ (fitted y offer).def))
held_after o m None offer c i y t h = inl h
held_after o m (Some x) offer c i y t h =
    elim (put_cases o m x offer c) [
      | inl still ↦ inl (ap (λ d. held d i y) (sym still.1) ∙ h)
      | inr placed ↦ elim (cases_place m x i y) [
        | inr apart ↦ inl (sym (placed.1.elsewhere i y apart) ∙ h)
        | inl here ↦
            let f : Some placed.1.now ≡ Some t = sym placed.1.now_is ∙ (ap (λ n. held (put o c m x offer) n x) here.0 ∙ (ap (λ z. held (put o c m x offer) i z) here.1 ∙ h)) in
            let is_t : placed.1.now ≡ t = cc in
            inr (ap Some here.1, ap (λ (z : Binding _). z.def) (sym is_t) ∙ (settled_def_any o (held c m x) (fitted x offer) placed.1.now placed.1.settles ∙ ap (λ z. (fitted z offer).def) here.1))
      ]
    ]

pub fitted_def : {V : Type 0} (y : Slot) (e f : Entry V) → e.def ≡ f.def → (fitted y (offered e)).def ≡ (fitted y (offered f)).def
fitted_def (Named n ns) e f h = h
fitted_def (Unnamed t) e f h = refl

module _ {V : Type 0} (o : Order V) (laws : IsPartialOrder o.at_most) (left_out : ModuleId → Bool) (old : Content V) (i : ModuleId) (y : Slot) (left : left_out i ≡ false) (P : Pending) (m : ModuleId) where
  module _ (x : Slot) (offer : Binding V) (c c' : Content V) (placed : Placed o m x offer c c') (pends : (j : ℕ) → P m j x)
      (closed : ClosedBut o left_out P c)
      (stays : m ≡ i → x ≡ y → KeepsDef c c' i y)
      (risen : RaisedBut o old P i y c) where
    -- the place that the put wrote
    placed_here : m ≡ i → x ≡ y → KeepsDef old c' i y
        → (s' : ModuleId) (k' : ℕ) (e' : EdgeTo V) (b there : Binding V) (g : GlobId) → slice_get (c.edges s') k' ≡ Some e' → e'.importer ≡ i → held c s' y ≡ Some b
        → o.can_see i b.vis ≡ true → held c' i y ≡ Some there → there.import ≡ Some (Glob g) → there.def ≡ b.def
        → placed.now ≡ there
        → (was : Option (Binding V)) → held c m x ≡ was
        → (rises_to o there.vis (carried o e' b).vis ≡ false) ⊎ P s' k' y
    placed_here is_i is_y keeps s' k' e' b there g at' to own seen here by same now None i_was =
        elim (closed s' k' e' y b at' (ap left_out to ∙ left) own (ap (λ n. o.can_see n b.vis) to ∙ seen)) [
          | inl bound ↦
              let wrong : None ≡ Some bound.0 = sym i_was ∙ (ap (λ n. held c n x) is_i ∙ (ap (λ z. held c i z) is_y ∙ (ap (λ n. held c n y) (sym to) ∙ bound.1))) in
              cc
          | inr p ↦ inr p
        ]
    placed_here is_i is_y keeps s' k' e' b there g at' to own seen here by same now (Some t) i_was =
        let was : held c i y ≡ Some t = ap (λ n. held c n y) (sym is_i) ∙ (ap (λ z. held c m z) (sym is_y) ∙ i_was) in
        let r : settled o (Some t) (fitted x offer) ≡ Some there =
        subst (λ (a : Binding _). settled o (Some t) (fitted x offer) ≡ Some a) now (subst (λ z. settled o z (fitted x offer) ≡ Some placed.now) i_was placed.settles) in
        let cases = settled_glob o t (fitted x offer) there g (glob_of (fitted x offer).import) refl r by in
        elim cases.1.2 [
          | raised d rise f ↦
              let t_def : t.def ≡ there.def = ap (λ (z : Binding _). z.def) (sym f) in
              let kept : KeepsDef old c i y = λ a b' was_a is_b'. let twice : Some t ≡ Some b' = sym was ∙ is_b' in let is_t : t ≡ b' = cc in keeps a there was_a here ∙ (sym t_def ∙ ap (λ (z : Binding _). z.def) is_t) in
              elim (risen kept s' k' e' b t cases.1.0 at' to own seen was cases.1.1 (t_def ∙ same)) [
                | inl flat ↦
                    let up : rises_to o t.vis there.vis ≡ true = ap (rises_to o t.vis) (ap (λ (z : Binding _). z.vis) f) ∙ rise in
                    inl (rises_less o laws t.vis there.vis (carried o e' b).vis up flat)
                | inr p ↦ inr p
              ]
          | replaced d eq f ↦
              let there_def : there.def ≡ (fitted x offer).def = ap (λ (z : Binding _). z.def) f in
              let differ : t.def ≡ (fitted x offer).def → ⊥ = λ h. false≢true (sym d ∙ (ap (def_eq t.def) (sym h) ∙ def-refl t.def)) in
              absurd (differ (stays is_i is_y t there was here ∙ there_def))
        ]

    raised_placed : RaisedBut o old P i y c'
    raised_placed keeps s' k' e' b there g at' to own seen here by same =
        elim (cases_place m x s' y) [
          | inl now ↦ inr (subst (λ n. P n k' y) now.0 (subst (λ z. P m k' z) now.1 (pends k')))
          | inr source_apart ↦
              let was_at : slice_get (c.edges s') k' ≡ Some e' = ap (λ (f : ModuleId → List (EdgeTo _)). slice_get (f s') k') (sym placed.same_edges) ∙ at' in
              let was : held c s' y ≡ Some b = sym (placed.elsewhere s' y source_apart) ∙ own in
              elim (cases_place m x i y) [
                | inl now ↦
                    let twice : Some placed.now ≡ Some there = sym placed.now_is ∙ (ap (λ n. held c' n x) now.0 ∙ (ap (λ z. held c' i z) now.1 ∙ here)) in
                    let is_there : placed.now ≡ there = cc in
                    placed_here now.0 now.1 keeps s' k' e' b there g was_at to was seen here by same is_there (held c m x) refl
                | inr apart ↦
                    let stays : held c' i y ≡ held c i y = placed.elsewhere i y apart in
                    risen (λ a b' was_a is_b'. keeps a b' was_a (stays ∙ is_b')) s' k' e' b there g was_at to was seen (sym stays ∙ here) by same
              ]
        ]

  raised_put : (x : Option Slot) (offer : Binding V) (c : Content V) → ((z : Slot) → Contains (changed_at o m x offer c) z → (j : ℕ) → P m j z)
      → ClosedBut o left_out P c
      → (m ≡ i → KeepsDef c (put_at o m x offer c) i y)
      → RaisedBut o old P i y c → RaisedBut o old P i y (put_at o m x offer c)
  raised_put None offer c pends closed stays risen = risen
  raised_put (Some x) offer c pends closed stays risen =
      elim (put_cases o m x offer c) [
        | inl still ↦ subst (λ d. RaisedBut o old P i y d) (sym still.1) risen
        | inr placed ↦ raised_placed x offer c (put o c m x offer) placed.1 (pends x (in_changed _ x placed.0)) closed (λ is_i is_y. stays is_i) risen
      ]

  pub raised_puts : (list : List (Entry V)) (c : Content V) → ((z : Slot) → Contains (changed_by o m list c) z → (j : ℕ) → P m j z)
      → (m ≡ i → KeepsDefs o m list c y) → ClosedBut o left_out P c → RaisedBut o old P i y c → RaisedBut o old P i y (puts o m list c)
  raised_puts [] c pends stays closed risen = risen
  raised_puts (e ∷ es) c pends stays closed risen =
      let now_pends : (z : Slot) → Contains (changed_at o m (slot_of e) (offered e) c) z → (j : ℕ) → P m j z = λ z h. pends z (Contains-append_left _ (changed_by o m es (put_entry o m e c)) z h) in
      raised_puts es (put_entry o m e c) (λ z h. pends z (Contains-append_right (changed_at o m (slot_of e) (offered e) c) _ z h))
      (λ is_i. (stays is_i).1)
      (closed_put o left_out P m (slot_of e) (offered e) c now_pends closed)
      (raised_put (slot_of e) (offered e) c now_pends closed (λ is_i. subst (λ n. KeepsDef c (put_entry o m e c) n y) is_i (stays is_i).0) risen)
