-- How often a place can still change while one definition is carried, and how copies along one edge use that up.
use Rattle.std.proofs.Common.{◌≡◌, ℕ, suc, ◌<◌, ◌≤◌, true, cond, Option, Some, None, List, [], ◌∷◌, refl, sym, ap, ◌∙◌, subst, inl, inr, ◌⊎◌, arith}
use Rattle.std.specs.Prelude.{Contains}
use Rattle.std.proofs.lemmas.Bool.{false≢true, cases_Bool}
use Rattle.std.proofs.lemmas.List.Elements.{Contains-append_cases}
use Rattle.def_ids.specs.declared.ids.ModuleId.{ModuleId}
use Rattle.def_ids.specs.declared.ids.GlobId.{GlobId}
use Rattle.def_ids.specs.declared.ids.Def.{Def}
use Rattle.def_ids.specs.Equality.{def_eq}
use Rattle.def_bindings.specs.declared.bindings.ImportOrExternCrate.TheVariants.{Glob}
use Rattle.def_bindings.specs.declared.bindings.Binding.{Binding}
use Rattle.def_bindings.specs.declared.bindings.EdgeTo.{EdgeTo}
use Rattle.def_bindings.specs.declared.bindings.Slot.{Slot}
use Rattle.def_bindings.specs.declared.bindings.Slot.TheVariants.{Named, Unnamed}
use Rattle.def_bindings.specs.Order.{Order, IsLawful}
use Rattle.def_bindings.specs.Content.{Content}
use Rattle.def_bindings.specs.Puts.{held, fitted, settled, lessened, carried, copied}
use Rattle.def_globs.specs.Pending.{is_changed, copied_all, reached}
use Rattle.def_bindings.specs.DefLaws.{def-refl}
use Rattle.def_globs.proofs.ListLaws.{first_in, later_in, none_in}
use Rattle.def_bindings.specs.HeldLaws.{cases_place, held-fitted}
use Rattle.def_globs.proofs.SettlingLaws.{raised, replaced, settled_cases, settled_def, settled_vis}
use Rattle.def_globs.proofs.CopyingLaws.{Moved, copy_cases, offer_glob, offer_def}
use Rattle.def_globs.proofs.RiseLemmas.{climb, climb-height, climb-less}
use Rattle.def_globs.proofs.CoheringLemmas.{HasDefs}
use Rattle.def_globs.proofs.StepsLemmas.{defs_after, in_cond}

-- what a module has at these slots is visible as the list says
abbrev pub HasVis : {V : Type 0} → Content V → ModuleId → (Slot → Type 0) → List V → Type 0
HasVis c m S vs = (slot : Slot) → S slot → (b : Binding _) → held c m slot ≡ Some b → Contains vs b.vis

-- what travels is one of both
lessened_cases : {V : Type 0} (o : Order V) (own import : V) → (lessened o own import ≡ own) ⊎ (lessened o own import ≡ import)
lessened_cases o own import =
    elim (cases_Bool (o.at_most own import)) [
      | inl h ↦ rw h (inl refl)
      | inr h ↦ elim (cases_Bool (o.at_most import own)) [
        | inl k ↦ rw (h, k) (inr refl)
        | inr k ↦ rw (h, k) (inr refl)
      ]
    ]

fitted_vis : {V : Type 0} (x : Slot) (b : Binding V) → (fitted x b).vis ≡ b.vis
fitted_vis (Named n ns) b = refl
fitted_vis (Unnamed t) b = refl

-- the rises that are left to a place with the carried definition, and more where it has none or another
abbrev pub room : {V : Type 0} → Order V → ℕ → List V → Def → Option (Binding V) → ℕ
room o height vs def None = suc height
room o height vs def (Some b) = cond (def_eq b.def def) (climb o vs height b.vis) (suc height)

module _ {V : Type 0} (o : Order V) (height : ℕ) (lawful : IsLawful o height) (vs : List V) where
  room_at : (a : Binding V) (def : Def) → a.def ≡ def → room o height vs def (Some a) ≡ climb o vs height a.vis
  room_at a def h = let e : def_eq a.def def ≡ true = subst (λ d. def_eq a.def d ≡ true) h (def-refl a.def) in rw e

  room-settled : (there : Option (Binding V)) (offer a : Binding V) (h : GlobId) → offer.import ≡ Some (Glob h) → Contains vs offer.vis
      → settled o there offer ≡ Some a → room o height vs offer.def (Some a) < room o height vs offer.def there
  room-settled None offer a h i at e =
      let s = room_at a offer.def (settled_def o None offer a h i e) in
      let low = climb-height o height lawful vs height a.vis in
      rw s (omega arith)
  room-settled (Some there) offer a h i at e =
      let s = room_at a offer.def (settled_def o (Some there) offer a h i e) in
      elim (settled_cases o there offer a h i e).2 [
        | raised d r f ↦
            let x : a.vis ≡ offer.vis = ap (λ y. y.vis) f in
            let less = climb-less o height lawful vs there.vis offer.vis at r in
            rw (s, d, x) less
        | replaced d r f ↦
            let low = climb-height o height lawful vs height a.vis in
            rw (s, d) (omega arith)
      ]

  module _ (s : ModuleId) (e : EdgeTo V) (edge_vis : Contains vs e.vis) where
    offer_vis : (x : Slot) (own : Binding V) → Contains vs own.vis → Contains vs (fitted x (carried o e own)).vis
    offer_vis x own at =
        elim (lessened_cases o own.vis e.vis) [
          | inl h ↦ subst (Contains vs) (sym (fitted_vis x (carried o e own) ∙ h)) at
          | inr h ↦ subst (Contains vs) (sym (fitted_vis x (carried o e own) ∙ h)) edge_vis
        ]

    module _ (x : Slot) (c : Content V) (source_vis : (b : Binding V) → held c s x ≡ Some b → Contains vs b.vis) where
      now_vis : (moved : Moved o s e x c (copied o s e x c)) → Contains vs moved.now.vis
      now_vis moved =
          let glob = offer_glob o e x moved.own in
          subst (Contains vs) (sym (settled_vis o (held c e.importer x) (fitted x (carried o e moved.own)) moved.now glob.0 glob.1 moved.settles))
          (offer_vis x moved.own (source_vis moved.own moved.own_is))

      -- what is held is as it was, or visible as the list says
      vis_copied : (n : ModuleId) (y : Slot) (b : Binding V) → held (copied o s e x c) n y ≡ Some b → (held c n y ≡ Some b) ⊎ Contains vs b.vis
      vis_copied n y b h =
          elim (copy_cases o s e x c) [
            | inl still ↦ inl (ap (λ d. held d n y) (sym still.1.same) ∙ h)
            | inr moved ↦ elim (cases_place e.importer x n y) [
              | inl here ↦
                  let f : Some moved.1.now ≡ Some b = sym moved.1.now_is ∙ (ap (λ m. held (copied o s e x c) m x) here.0 ∙ (ap (λ z. held (copied o s e x c) n z) here.1 ∙ h)) in
                  let is_b : moved.1.now ≡ b = cc in
                  inr (subst (λ (z : Binding _). Contains vs z.vis) is_b (now_vis moved.1))
              | inr apart ↦ inl (sym (moved.1.elsewhere n y apart) ∙ h)
            ]
          ]

      vis_reached : is_changed o s e x c ≡ true → (b : Binding V) → held (copied o s e x c) e.importer x ≡ Some b → Contains vs b.vis
      vis_reached changed b h =
          elim (copy_cases o s e x c) [
            | inl still ↦ absurd (false≢true (sym still.0 ∙ changed))
            | inr moved ↦
                let f : Some moved.1.now ≡ Some b = sym moved.1.now_is ∙ h in
                let is_b : moved.1.now ≡ b = cc in
                subst (λ (z : Binding _). Contains vs z.vis) is_b (now_vis moved.1)
          ]

      module _ (def_of : Slot → Def) (source_def : (b : Binding V) → held c s x ≡ Some b → b.def ≡ def_of x) where
        room_moved : (moved : Moved o s e x c (copied o s e x c)) → room o height vs (def_of x) (held (copied o s e x c) e.importer x) < room o height vs (def_of x) (held c e.importer x)
        room_moved moved =
            let glob = offer_glob o e x moved.own in
            let seen = offer_vis x moved.own (source_vis moved.own moved.own_is) in
            let less = room-settled (held c e.importer x) (fitted x (carried o e moved.own)) moved.now glob.0 glob.1 seen moved.settles in
            let d : (fitted x (carried o e moved.own)).def ≡ def_of x = offer_def o e x moved.own (held-fitted c s x moved.own moved.own_is) ∙ source_def moved.own moved.own_is in
            let less' : room o height vs (def_of x) (Some moved.now) < room o height vs (def_of x) (held c e.importer x) = subst (λ d. room o height vs d (Some moved.now) < room o height vs d (held c e.importer x)) d less in
            subst (λ t. room o height vs (def_of x) t < room o height vs (def_of x) (held c e.importer x)) (sym moved.now_is) less'

        room_less : is_changed o s e x c ≡ true → room o height vs (def_of x) (held (copied o s e x c) e.importer x) < room o height vs (def_of x) (held c e.importer x)
        room_less changed =
            elim (copy_cases o s e x c) [
              | inl still ↦ absurd (false≢true (sym still.0 ∙ changed))
              | inr moved ↦ room_moved moved.1
            ]

        room_kept : (n : ModuleId) (y : Slot) → room o height vs (def_of y) (held (copied o s e x c) n y) ≤ room o height vs (def_of y) (held c n y)
        room_kept n y =
            elim (copy_cases o s e x c) [
              | inl still ↦ let same : room o height vs (def_of y) (held (copied o s e x c) n y) ≡ room o height vs (def_of y) (held c n y) = ap (λ d. room o height vs (def_of y) (held d n y)) still.1.same in omega arith
              | inr moved ↦ elim (cases_place e.importer x n y) [
                | inl here ↦
                    let at_x : room o height vs (def_of x) (held (copied o s e x c) e.importer x) ≤ room o height vs (def_of x) (held c e.importer x) = let less = room_moved moved.1 in omega arith in
                    subst (λ m. room o height vs (def_of y) (held (copied o s e x c) m y) ≤ room o height vs (def_of y) (held c m y)) here.0
                    (subst (λ z. room o height vs (def_of z) (held (copied o s e x c) e.importer z) ≤ room o height vs (def_of z) (held c e.importer z)) here.1 at_x)
                | inr apart ↦ let same : room o height vs (def_of y) (held (copied o s e x c) n y) ≡ room o height vs (def_of y) (held c n y) = ap (room o height vs (def_of y)) (moved.1.elsewhere n y apart) in omega arith
              ]
            ]

    -- what copies of several slots leave of the room
    pub record AllRoom (def_of : Slot → Def) (xs : List Slot) (c c' : Content V) (r : List Slot) : Type 0 where
      pub vises : (n : ModuleId) (y : Slot) (b : Binding V) → held c' n y ≡ Some b → (held c n y ≡ Some b) ⊎ Contains vs b.vis
      pub reached_vises : HasVis c' e.importer (Contains r) vs
      pub room_kept : (n : ModuleId) (y : Slot) → room o height vs (def_of y) (held c' n y) ≤ room o height vs (def_of y) (held c n y)
      pub room_less : (y : Slot) → Contains r y → room o height vs (def_of y) (held c' e.importer y) < room o height vs (def_of y) (held c e.importer y)

    vis_after : (x : Slot) (c : Content V) → ((b : Binding V) → held c s x ≡ Some b → Contains vs b.vis) → (n : ModuleId) (Q : Slot → Type 0)
        → HasVis c n Q vs → HasVis (copied o s e x c) n Q vs
    vis_after x c source_vis n Q vises y q b h = elim (vis_copied x c source_vis n y b h) [ inl was ↦ vises y q b was | inr d ↦ d ]

    pub all_room : (def_of : Slot → Def) (xs : List Slot) (c : Content V) → HasDefs c s (Contains xs) def_of → HasVis c s (Contains xs) vs
        → AllRoom def_of xs c (copied_all o s e xs c) (reached o s e xs c)
    all_room def_of [] c defs vises = record {
      vises = λ n y b h. inl h;
      reached_vises = λ y q. absurd (none_in y q);
      room_kept = λ n y. omega arith;
      room_less = λ y q. absurd (none_in y q);
    }
    all_room def_of (x ∷ xs) c defs vises =
        let source_def : (b : Binding V) → held c s x ≡ Some b → b.def ≡ def_of x = defs x (first_in x xs) in
        let source_vis : (b : Binding V) → held c s x ≡ Some b → Contains vs b.vis = vises x (first_in x xs) in
        let rest : HasDefs c s (Contains xs) def_of = λ y q. defs y (later_in x xs y q) in
        let rest_vis : HasVis c s (Contains xs) vs = λ y q. vises y (later_in x xs y q) in
        let c1 : Content V = copied o s e x c in
        let ih = all_room def_of xs c1 (defs_after o s e def_of x c source_def s (Contains xs) rest) (vis_after x c source_vis s (Contains xs) rest_vis) in
        record {
          vises = λ n y b h. elim (ih.vises n y b h) [ inl was ↦ vis_copied x c source_vis n y b was | inr d ↦ inr d ];
          reached_vises = λ y q b h. elim (Contains-append_cases (cond (is_changed o s e x c) (x ∷ []) []) (reached o s e xs c1) y q) [
            | inl now ↦
                let p = in_cond (is_changed o s e x c) x y now in
                elim (ih.vises e.importer y b h) [
                  | inl was ↦ vis_reached x c source_vis p.0 b (ap (λ z. held (copied o s e x c) e.importer z) (sym p.1) ∙ was)
                  | inr d ↦ d
                ]
            | inr later ↦ ih.reached_vises y later b h
          ];
          room_kept = λ n y. let a = ih.room_kept n y in let b = room_kept x c source_vis def_of source_def n y in omega arith;
          room_less = λ y q. elim (Contains-append_cases (cond (is_changed o s e x c) (x ∷ []) []) (reached o s e xs c1) y q) [
            | inl now ↦
                let p = in_cond (is_changed o s e x c) x y now in
                let a = ih.room_kept e.importer x in
                let b = room_less x c source_vis def_of source_def p.0 in
                let at_x : room o height vs (def_of x) (held (copied_all o s e xs c1) e.importer x) < room o height vs (def_of x) (held c e.importer x) = omega arith in
                subst (λ z. room o height vs (def_of z) (held (copied_all o s e xs c1) e.importer z) < room o height vs (def_of z) (held c e.importer z)) (sym p.1) at_x
            | inr later ↦
                let a = ih.room_less y later in let b = room_kept x c source_vis def_of source_def e.importer y in omega arith
          ];
        }
