-- Raised but for what is pending, over one copy and over the copies along one edge.
use Rattle.std.proofs.Common.{◌≡◌, ℕ, Bool, true, false, cond, Option, Some, None, List, [], ◌∷◌, refl, sym, ap, ◌∙◌, subst, inl, inr, ◌⊎◌}
use Rattle.std.specs.Prelude.{slice_get, Contains}
use Rattle.std.proofs.lemmas.Bool.{cases_Bool, and_parts, not-true, false≢true}
use Rattle.std.proofs.lemmas.List.Elements.{Contains-append_right}
use Rattle.def_ids.specs.declared.ids.ModuleId.{ModuleId}
use Rattle.def_ids.specs.declared.ids.GlobId.{GlobId}
use Rattle.def_ids.specs.declared.ids.Def.{Def}
use Rattle.def_ids.specs.Equality.{def_eq}
use Rattle.def_bindings.specs.declared.bindings.ImportOrExternCrate.TheVariants.{Glob}
use Rattle.def_bindings.specs.declared.bindings.Binding.{Binding}
use Rattle.def_bindings.specs.declared.bindings.EdgeTo.{EdgeTo}
use Rattle.def_bindings.specs.declared.bindings.Slot.{Slot}
use Rattle.def_bindings.specs.declared.bindings.Slot.TheVariants.{Named, Unnamed}
use Rattle.def_bindings.specs.Order.{Order, IsPartialOrder, rises_to}
use Rattle.def_bindings.specs.Content.{Content}
use Rattle.def_bindings.specs.Puts.{held, fitted, glob_of, settled, settled_over, carried, copied}
use Rattle.def_bindings.specs.DefLaws.{def-refl}
use Rattle.def_bindings.specs.Slots.{is_same_place}
use Rattle.def_bindings.specs.HeldLaws.{cases_place, held-fitted}
use Rattle.def_globs.specs.Pending.{Pending, ClosedBut, is_changed, copied_all, reached}
use Rattle.def_globs.specs.Waves.{Copies, none, more}
use Rattle.def_globs.specs.Raised.{KeepsDef, RaisedBut}
use Rattle.def_globs.proofs.SettlingLaws.{raised, replaced, settled_cases, settled_vis}
use Rattle.def_globs.proofs.CopyingLaws.{Moved, Still, copy_cases, offer_glob, offer_def}
use Rattle.def_globs.proofs.ListLaws.{first_in, later_in}
use Rattle.def_globs.proofs.ClosingLemmas.{Passes, closed_copied}
use Rattle.def_globs.proofs.CoheringLemmas.{HasDefs, absurd_apart}
use Rattle.def_globs.proofs.AlongLemmas.{With, passes_one, in_reached, nothing_more, at_after}
use Rattle.def_globs.proofs.StepsLemmas.{def_copied, defs_after}

-- nothing is greater than itself
and_not : (p : Bool) → (p ≡ true) → (p ≡ false) → ⊥
and_not p h k = false≢true (sym k ∙ h)

pub rises_itself : {V : Type 0} (o : Order V) (v : V) → rises_to o v v ≡ false
rises_itself o v =
    elim (cases_Bool (o.at_most v v)) [
      | inl h ↦ rw h refl
      | inr h ↦ rw h refl
    ]

-- what does not rise above a visibility does not rise above a greater one
pub rises_less : {V : Type 0} (o : Order V) → IsPartialOrder o.at_most → (a b v : V) → rises_to o a b ≡ true → rises_to o a v ≡ false → rises_to o b v ≡ false
rises_less o laws a b v up flat =
    elim (cases_Bool (rises_to o b v)) [
      | inr h ↦ h
      | inl h ↦
          let p = and_parts _ _ up in
          let q = and_parts _ _ h in
          let over : o.at_most a v ≡ true = laws.transitive a b v p.0 q.0 in
          elim (cases_Bool (o.at_most v a)) [
            | inl back ↦ absurd (and_not (o.at_most v b) (laws.transitive v a b back p.0) (not-true _ q.1))
            | inr strict ↦ absurd (let yes : rises_to o a v ≡ true = rw (over, strict) refl in false≢true (sym flat ∙ yes))
          ]
    ]

-- where a glob's offer of the same definition changes nothing, it is no raise
three_unraised : {V : Type 0} (there offer : Binding V) (p q r : Bool) → p ≡ true
    → cond p (cond q (Some (record there { vis = offer.vis })) None) (cond r (Some offer) None) ≡ None → q ≡ false
three_unraised there offer true true r i h = cc
three_unraised there offer true false r i h = refl
three_unraised there offer false q r i h = cc

over_unraised : {V : Type 0} (o : Order V) (there offer : Binding V) (p q : Option GlobId) (g h : GlobId) → p ≡ Some g → q ≡ Some h → there.def ≡ offer.def
    → settled_over o there offer p q ≡ None → rises_to o there.vis offer.vis ≡ false
over_unraised o there offer (Some g') (Some h') g h i j d e =
    three_unraised there offer (def_eq there.def offer.def) (rises_to o there.vis offer.vis) _ (ap (def_eq there.def) (sym d) ∙ def-refl there.def) e
over_unraised o there offer (Some g') None g h i j d e = cc
over_unraised o there offer None q g h i j d e = cc

pub settled_unraised : {V : Type 0} (o : Order V) (there offer : Binding V) (g h : GlobId) → there.import ≡ Some (Glob g) → offer.import ≡ Some (Glob h) → there.def ≡ offer.def
    → settled o (Some there) offer ≡ None → rises_to o there.vis offer.vis ≡ false
settled_unraised o there offer g h i j d e = over_unraised o there offer (glob_of there.import) (glob_of offer.import) g h (ap glob_of i) (ap glob_of j) d e

-- a binding that fits a slot has the visibility that was offered
pub fitted_vis : {V : Type 0} (x : Slot) (b : Binding V) → (fitted x b).vis ≡ b.vis
fitted_vis (Named n ns) b = refl
fitted_vis (Unnamed t) b = refl

edge_is : {V : Type 0} (c : Content V) (m s : ModuleId) (j k : ℕ) (e' e : EdgeTo V) → slice_get (c.edges m) j ≡ Some e' → slice_get (c.edges s) k ≡ Some e → m ≡ s → j ≡ k → e' ≡ e
edge_is c m s j k e' e i h p q =
    let f : Some e' ≡ Some e = sym i ∙ (ap (λ n. slice_get (c.edges n) j) p ∙ (ap (λ n. slice_get (c.edges s) n) q ∙ h)) in cc

-- what a content holds it held before, or it has the definition that was copied
abbrev pub HeldOr : {V : Type 0} → Content V → (Slot → Def) → Content V → Type 0
HeldOr c0 def_of c = (n : ModuleId) (y : Slot) (b : Binding _) → held c n y ≡ Some b → (held c0 n y ≡ Some b) ⊎ (b.def ≡ def_of y)

pub held_or : {V : Type 0} (o : Order V) (slots : List Slot) (def_of : Slot → Def) {c d : Content V} → Copies o slots def_of c d → HeldOr c def_of d
held_or o slots def_of none n y b h = inl h
held_or o slots def_of (more {c} {d} s e x k before at within def) n y b h =
    elim (def_copied o s e x d def_of def n y b h) [
      | inl was ↦ held_or o slots def_of before n y b was
      | inr is ↦ inr is
    ]

module _ {V : Type 0} (o : Order V) (laws : IsPartialOrder o.at_most) (left_out : ModuleId → Bool) (old : Content V) (i : ModuleId) (y : Slot) (left : left_out i ≡ false)
    (P P' : Pending) (s : ModuleId) (k : ℕ) (e : EdgeTo V) (x : Slot) where
  -- the copy's own edge, at the very slot
  abbrev Own : Content V → ModuleId → ℕ → EdgeTo V → Type 0
  Own c s' k' e' = (s' ≡ s) × (k' ≡ k) × (y ≡ x)

  raised_still : (c : Content V) (changed : Bool) → slice_get (c.edges s) k ≡ Some e → Passes P P' s k x e.importer changed
      → Still o s e x c c → RaisedBut o old P i y c → RaisedBut o old P' i y c
  raised_still c changed at passes still risen keeps s' k' e' b there g at' to own seen here by same =
      elim (risen keeps s' k' e' b there g at' to own seen here by same) [
        | inl flat ↦ inl flat
        | inr p ↦ elim (passes.keeps s' k' y p) [
          | inl p' ↦ inr p'
          | inr q ↦
              let is_e : e' ≡ e = edge_is c s' s k' k e' e at' at q.0 q.1 in
              let leads : e.importer ≡ i = ap (λ (n : EdgeTo _). n.importer) (sym is_e) ∙ to in
              let own' : held c s x ≡ Some b = ap (λ n. held c n x) (sym q.0) ∙ (ap (λ z. held c s' z) (sym q.2) ∙ own) in
              let here' : held c e.importer x ≡ Some there = ap (λ n. held c n x) leads ∙ (ap (λ z. held c i z) (sym q.2) ∙ here) in
              let r : settled o (held c e.importer x) (fitted x (carried o e b)) ≡ None = still.refused b own' (ap (λ n. o.can_see n b.vis) leads ∙ seen) in
              let r' : settled o (Some there) (fitted x (carried o e b)) ≡ None = subst (λ t. settled o t (fitted x (carried o e b)) ≡ None) here' r in
              let og = offer_glob o e x b in
              let d : there.def ≡ (fitted x (carried o e b)).def = same ∙ sym (offer_def o e x b (held-fitted c s x b own')) in
              let flat : rises_to o there.vis (fitted x (carried o e b)).vis ≡ false = settled_unraised o there (fitted x (carried o e b)) g og.0 by og.1 d r' in
              inl (ap (λ (n : EdgeTo _). rises_to o there.vis (carried o n b).vis) is_e ∙ (ap (rises_to o there.vis) (sym (fitted_vis x (carried o e b))) ∙ flat))
        ]
      ]

  module _ (c c' : Content V) (def_of : Slot → Def) (at : slice_get (c.edges s) k ≡ Some e) (passes : Passes P P' s k x e.importer true)
      (closed : ClosedBut o left_out P c) (since : HeldOr old def_of c) (moved : Moved o s e x c c') (own_def : moved.own.def ≡ def_of x)
      (risen : RaisedBut o old P i y c) where
    -- the edge that was copied along raises nothing
    along_own : (s' : ModuleId) (k' : ℕ) (e' : EdgeTo V) (b there : Binding V) → slice_get (c.edges s') k' ≡ Some e' → held c s' y ≡ Some b → there.vis ≡ (carried o e moved.own).vis
        → (s' ≡ s) × (k' ≡ k) × (y ≡ x) → rises_to o there.vis (carried o e' b).vis ≡ false
    along_own s' k' e' b there at' own vis q =
        let is_e : e' ≡ e = edge_is c s' s k' k e' e at' at q.0 q.1 in
        let twice : Some moved.own ≡ Some b = sym moved.own_is ∙ (ap (λ n. held c n x) (sym q.0) ∙ (ap (λ z. held c s' z) (sym q.2) ∙ own)) in
        let is_b : moved.own ≡ b = cc in
        let offer_is : (carried o e' b).vis ≡ there.vis = ap (λ (n : EdgeTo _). (carried o n b).vis) is_e ∙ (ap (λ (n : Binding _). (carried o e n).vis) (sym is_b) ∙ sym vis) in
        ap (rises_to o there.vis) offer_is ∙ rises_itself o there.vis

    passed : (s' : ModuleId) (k' : ℕ) (e' : EdgeTo V) (b there : Binding V) → slice_get (c.edges s') k' ≡ Some e' → held c s' y ≡ Some b → there.vis ≡ (carried o e moved.own).vis
        → P s' k' y → (rises_to o there.vis (carried o e' b).vis ≡ false) ⊎ P' s' k' y
    passed s' k' e' b there at' own vis p =
        elim (passes.keeps s' k' y p) [
          | inl p' ↦ inr p'
          | inr q ↦ inl (along_own s' k' e' b there at' own vis q)
        ]

    -- the place that the move wrote
    raised_here : x ≡ y → e.importer ≡ i → KeepsDef old c' i y
        → (s' : ModuleId) (k' : ℕ) (e' : EdgeTo V) (b there : Binding V) (g : GlobId) → slice_get (c.edges s') k' ≡ Some e' → e'.importer ≡ i → held c s' y ≡ Some b
        → o.can_see i b.vis ≡ true → held c' i y ≡ Some there → there.import ≡ Some (Glob g) → there.def ≡ b.def
        → moved.now ≡ there
        → (was : Option (Binding V)) → held c e.importer x ≡ was
        → (rises_to o there.vis (carried o e' b).vis ≡ false) ⊎ P' s' k' y
    raised_here is_y is_i keeps s' k' e' b there g at' to own seen here by same now None i_was =
        let og = offer_glob o e x moved.own in
        let vis : there.vis ≡ (carried o e moved.own).vis = ap (λ (z : Binding _). z.vis) (sym now) ∙ (settled_vis o _ _ moved.now og.0 og.1 moved.settles ∙ fitted_vis x (carried o e moved.own)) in
        elim (closed s' k' e' y b at' (ap left_out to ∙ left) own (ap (λ n. o.can_see n b.vis) to ∙ seen)) [
          | inl bound ↦
              let wrong : None ≡ Some bound.0 = sym i_was ∙ (ap (λ n. held c n x) is_i ∙ (ap (λ z. held c i z) is_y ∙ (ap (λ n. held c n y) (sym to) ∙ bound.1))) in
              cc
          | inr p ↦ passed s' k' e' b there at' own vis p
        ]
    raised_here is_y is_i keeps s' k' e' b there g at' to own seen here by same now (Some t) i_was =
        let og = offer_glob o e x moved.own in
        let vis : there.vis ≡ (carried o e moved.own).vis = ap (λ (z : Binding _). z.vis) (sym now) ∙ (settled_vis o _ _ moved.now og.0 og.1 moved.settles ∙ fitted_vis x (carried o e moved.own)) in
        let was : held c i y ≡ Some t = ap (λ n. held c n y) (sym is_i) ∙ (ap (λ z. held c e.importer z) (sym is_y) ∙ i_was) in
        let r : settled o (Some t) (fitted x (carried o e moved.own)) ≡ Some moved.now = subst (λ z. settled o z (fitted x (carried o e moved.own)) ≡ Some moved.now) i_was moved.settles in
        let cases = settled_cases o t (fitted x (carried o e moved.own)) moved.now og.0 og.1 r in
        let def_is : (fitted x (carried o e moved.own)).def ≡ moved.own.def = offer_def o e x moved.own (held-fitted c s x moved.own moved.own_is) in
        elim cases.2 [
          | raised d rise f ↦
              let t_def : t.def ≡ there.def = ap (λ (z : Binding _). z.def) (sym f ∙ now) in
              let kept : KeepsDef old c i y = λ a b' was_a is_b'. let twice : Some t ≡ Some b' = sym was ∙ is_b' in let is_t : t ≡ b' = cc in keeps a there was_a here ∙ (sym t_def ∙ ap (λ (z : Binding _). z.def) is_t) in
              elim (risen kept s' k' e' b t cases.0 at' to own seen was cases.1 (t_def ∙ same)) [
                | inl flat ↦
                    let up : rises_to o t.vis there.vis ≡ true = ap (rises_to o t.vis) (ap (λ (z : Binding _). z.vis) (sym now) ∙ ap (λ (z : Binding _). z.vis) f) ∙ rise in
                    inl (rises_less o laws t.vis there.vis (carried o e' b).vis up flat)
                | inr p ↦ passed s' k' e' b there at' own vis p
              ]
          | replaced d eq f ↦
              let there_def : there.def ≡ (fitted x (carried o e moved.own)).def = ap (λ (z : Binding _). z.def) (sym now ∙ f) in
              let differ : t.def ≡ (fitted x (carried o e moved.own)).def → ⊥ = λ h. false≢true (sym d ∙ (ap (def_eq t.def) (sym h) ∙ def-refl t.def)) in
              elim (since i y t was) [
                | inl before ↦ absurd (differ (keeps t there before here ∙ there_def))
                | inr is ↦ absurd (differ (is ∙ (ap def_of (sym is_y) ∙ (sym own_def ∙ sym def_is))))
              ]
        ]

    raised_moved : RaisedBut o old P' i y c'
    raised_moved keeps s' k' e' b there g at' to own seen here by same =
        elim (cases_place e.importer x s' y) [
          | inl now ↦ inr (subst (λ m. P' m k' y) now.0 (subst (λ z. P' e.importer k' z) now.1 (passes.adds refl k')))
          | inr source_apart ↦
              let was_at : slice_get (c.edges s') k' ≡ Some e' = ap (λ (f : ModuleId → List (EdgeTo _)). slice_get (f s') k') (sym moved.same_edges) ∙ at' in
              let was : held c s' y ≡ Some b = sym (moved.elsewhere s' y source_apart) ∙ own in
              elim (cases_place e.importer x i y) [
                | inl now ↦
                    let twice : Some moved.now ≡ Some there = sym moved.now_is ∙ (ap (λ n. held c' n x) now.0 ∙ (ap (λ z. held c' i z) now.1 ∙ here)) in
                    let is_there : moved.now ≡ there = cc in
                    raised_here now.1 now.0 keeps s' k' e' b there g was_at to was seen here by same is_there (held c e.importer x) refl
                | inr apart ↦
                    let stays : held c' i y ≡ held c i y = moved.elsewhere i y apart in
                    let kept : KeepsDef old c i y = λ a b' was_a is_b'. keeps a b' was_a (stays ∙ is_b') in
                    elim (risen kept s' k' e' b there g was_at to was seen (sym stays ∙ here) by same) [
                      | inl flat ↦ inl flat
                      | inr p ↦ elim (passes.keeps s' k' y p) [
                        | inl p' ↦ inr p'
                        | inr q ↦
                            let is_e : e' ≡ e = edge_is c s' s k' k e' e was_at at q.0 q.1 in
                            let leads : i ≡ e.importer = sym to ∙ ap (λ (n : EdgeTo _). n.importer) is_e in
                            absurd (absurd_apart e.importer x (subst (λ z. is_same_place e.importer x e.importer z ≡ false) q.2 (subst (λ n. is_same_place e.importer x n y ≡ false) leads apart)))
                      ]
                    ]
              ]
        ]

pub raised_mono : {V : Type 0} (o : Order V) (old : Content V) (P Q : Pending) (i : ModuleId) (y : Slot) (c : Content V) → ((m : ModuleId) (j : ℕ) (z : Slot) → P m j z → Q m j z)
    → RaisedBut o old P i y c → RaisedBut o old Q i y c
raised_mono o old P Q i y c f risen keeps s k e b there g at to own seen here by same =
    elim (risen keeps s k e b there g at to own seen here by same) [ inl flat ↦ inl flat | inr p ↦ inr (f s k y p) ]

pub raised_copied : {V : Type 0} (o : Order V) (laws : IsPartialOrder o.at_most) (left_out : ModuleId → Bool) (old : Content V) (i : ModuleId) (y : Slot) → left_out i ≡ false
    → (P P' : Pending) (s : ModuleId) (k : ℕ) (e : EdgeTo V) (x : Slot) (c : Content V) (def_of : Slot → Def)
    → slice_get (c.edges s) k ≡ Some e → Passes P P' s k x e.importer (is_changed o s e x c)
    → ClosedBut o left_out P c → HeldOr old def_of c → ((b : Binding V) → held c s x ≡ Some b → b.def ≡ def_of x)
    → RaisedBut o old P i y c → RaisedBut o old P' i y (copied o s e x c)
raised_copied o laws left_out old i y left P P' s k e x c def_of at passes closed since source_def risen =
    elim (copy_cases o s e x c) [
      | inl still ↦
          let self : Still o s e x c c = record { same = refl; refused = still.1.refused } in
          subst (λ d. RaisedBut o old P' i y d) (sym still.1.same) (raised_still o laws left_out old i y left P P' s k e x c (is_changed o s e x c) at passes self risen)
      | inr moved ↦
          let passes' : Passes P P' s k x e.importer true = record { keeps = passes.keeps; adds = λ _ j. passes.adds moved.0 j } in
          raised_moved o laws left_out old i y left P P' s k e x c (copied o s e x c) def_of at passes' closed since moved.1 (source_def moved.1.own moved.1.own_is) risen
    ]

module _ {V : Type 0} (o : Order V) (laws : IsPartialOrder o.at_most) (left_out : ModuleId → Bool) (old : Content V) (i : ModuleId) (y : Slot) (left : left_out i ≡ false)
    (P' : Pending) (s : ModuleId) (k : ℕ) (e : EdgeTo V) (def_of : Slot → Def) where
  since_after : (x : Slot) (c : Content V) → ((b : Binding V) → held c s x ≡ Some b → b.def ≡ def_of x) → HeldOr old def_of c → HeldOr old def_of (copied o s e x c)
  since_after x c source_def since n z b h =
      elim (def_copied o s e x c def_of source_def n z b h) [ inl was ↦ since n z b was | inr is ↦ inr is ]

  pub raised_all : (xs : List Slot) (c : Content V) → slice_get (c.edges s) k ≡ Some e
      → HasDefs c s (Contains xs) def_of → HeldOr old def_of c
      → ((z : Slot) → Contains (reached o s e xs c) z → (j : ℕ) → P' e.importer j z)
      → ClosedBut o left_out (With P' s k xs) c
      → RaisedBut o old (With P' s k xs) i y c → RaisedBut o old P' i y (copied_all o s e xs c)
  raised_all [] c at sources since adds closed risen = raised_mono o old (With P' s k []) P' i y c (nothing_more P' s k) risen
  raised_all (x ∷ xs) c at sources since adds closed risen =
      let passes = passes_one P' s k x xs e.importer (is_changed o s e x c) (λ h j. adds x (in_reached _ x _ h) j) in
      let source_def : (b : Binding V) → held c s x ≡ Some b → b.def ≡ def_of x = sources x (first_in x xs) in
      let rest : HasDefs c s (Contains xs) def_of = λ z q. sources z (later_in x xs z q) in
      raised_all xs (copied o s e x c) (at_after o left_out P' s k e x c at)
      (defs_after o s e def_of x c source_def s (Contains xs) rest) (since_after x c source_def since)
      (λ z h j. adds z (Contains-append_right (cond (is_changed o s e x c) (x ∷ []) []) _ z h) j)
      (closed_copied o left_out (With P' s k (x ∷ xs)) (With P' s k xs) s k e x c at passes closed)
      (raised_copied o laws left_out old i y left (With P' s k (x ∷ xs)) (With P' s k xs) s k e x c def_of at passes closed since source_def risen)
