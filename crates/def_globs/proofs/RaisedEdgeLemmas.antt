-- Once all that an edge would carry was put, and copies travelled, the edge raises nothing where its source's binding stayed.
use Rattle.std.proofs.Common.{◌≡◌, true, false, Option, Some, None, List, [], ◌∷◌, refl, sym, ap, ◌∙◌, subst, inl, inr, ◌⊎◌}
use Rattle.std.specs.Prelude.{is_some, Contains, option_to_list}
use Rattle.std.proofs.lemmas.List.Elements.{Contains-append_left, Contains-append_right}
use Rattle.std.proofs.lemmas.Bool.{false≢true}
use Rattle.def_ids.specs.declared.ids.ModuleId.{ModuleId}
use Rattle.def_ids.specs.declared.ids.GlobId.{GlobId}
use Rattle.def_ids.specs.declared.ids.Def.{Def}
use Rattle.def_ids.specs.Equality.{def_eq}
use Rattle.def_bindings.specs.declared.bindings.ImportOrExternCrate.TheVariants.{Glob}
use Rattle.def_bindings.specs.declared.bindings.Binding.{Binding}
use Rattle.def_bindings.specs.declared.bindings.EdgeTo.{EdgeTo}
use Rattle.def_bindings.specs.declared.bindings.Entry.{Entry}
use Rattle.def_bindings.specs.declared.bindings.Slot.{Slot}
use Rattle.def_bindings.specs.Order.{Order, IsPartialOrder, rises_to}
use Rattle.def_bindings.specs.Content.{Content}
use Rattle.def_bindings.specs.Puts.{held, fitted, glob_of, settled, carried, copied, put, put_at, put_entry, puts, slot_of, offered}
use Rattle.def_bindings.specs.Closure.{IsBound}
use Rattle.def_bindings.specs.DefLaws.{def-refl}
use Rattle.def_bindings.specs.HeldLaws.{cases_place, held-fitted}
use Rattle.def_globs.specs.Waves.{Copies, none, more, def_at, def_or, slots_of}
use Rattle.def_globs.specs.Raised.{IsRaisedAlong, KeepsDef, HasOneDef, ListsCarried}
use Rattle.def_globs.proofs.SettlingLaws.{raised, replaced, settled_cases, settled_vis}
use Rattle.def_globs.proofs.CopyingLaws.{copy_cases, offer_glob, offer_def}
use Rattle.def_globs.proofs.PuttingLaws.{Placed, put_cases, bound_put, puts_bind}
use Rattle.def_globs.proofs.RecordingLaws.{bound_copies}
use Rattle.def_globs.proofs.ListLaws.{first_in, later_in, none_in, in_cases}
use Rattle.def_globs.proofs.RaisingLemmas.{rises_itself, rises_less, settled_unraised, fitted_vis, held_or}
use Rattle.def_globs.proofs.RaisedPutsLemmas.{settled_glob, held_after, fitted_def}

is_none : {V : Type 0} (r : Option (Binding V)) → is_some r ≡ false → r ≡ None
is_none None h = refl
is_none (Some a) h = cc

there_bound : {V : Type 0} (o : Order V) (there : Option (Binding V)) (offer : Binding V) → settled o there offer ≡ None → (b : Binding V) × (there ≡ Some b)
there_bound o None offer h = cc
there_bound o (Some b) offer h = (b, refl)

module _ {V : Type 0} (o : Order V) (laws : IsPartialOrder o.at_most) (old : Content V) (m : ModuleId) (y : Slot) (d : Def) (v : V) where
  -- nothing of this visibility would raise what a glob made here of this definition
  abbrev pub Flat : Content V → Type 0
  Flat c = (t : Binding V) (g : GlobId) → held c m y ≡ Some t → t.import ≡ Some (Glob g) → t.def ≡ d → rises_to o t.vis v ≡ false

  -- the same, where the place has the definition that it had
  abbrev FlatSince : Content V → Type 0
  FlatSince c = KeepsDef old c m y → Flat c

  abbrev Since : Content V → Type 0
  Since c = (t : Binding V) → held c m y ≡ Some t → (held old m y ≡ Some t) ⊎ (t.def ≡ d)

  flat_placed : (offer : Binding V) (c c' : Content V) → Placed o m y offer c c' → (fitted y offer).def ≡ d → IsBound c m y → Since c → FlatSince c → FlatSince c'
  flat_placed offer c c' placed is_d bound since flat keeps t g here by same =
      let is_now : placed.now ≡ t = let twice : Some placed.now ≡ Some t = sym placed.now_is ∙ here in cc in
      let was : held c m y ≡ Some bound.0 = bound.1 in
      let r : settled o (Some bound.0) (fitted y offer) ≡ Some t =
      subst (λ (a : Binding _). settled o (Some bound.0) (fitted y offer) ≡ Some a) is_now (subst (λ z. settled o z (fitted y offer) ≡ Some placed.now) was placed.settles) in
      let cases = settled_glob o bound.0 (fitted y offer) t g (glob_of (fitted y offer).import) refl r by in
      elim cases.1.2 [
        | raised e rise f ↦
            let t_def : bound.0.def ≡ t.def = ap (λ (z : Binding _). z.def) (sym f) in
            let kept : KeepsDef old c m y = λ a b was_a is_b. let twice : Some bound.0 ≡ Some b = sym was ∙ is_b in let is_t : bound.0 ≡ b = cc in keeps a t was_a here ∙ (sym t_def ∙ ap (λ (z : Binding _). z.def) is_t) in
            let up : rises_to o bound.0.vis t.vis ≡ true = ap (rises_to o bound.0.vis) (ap (λ (z : Binding _). z.vis) f) ∙ rise in
            rises_less o laws bound.0.vis t.vis v up (flat kept bound.0 cases.1.0 was cases.1.1 (t_def ∙ same))
        | replaced e eq f ↦
            let differ : bound.0.def ≡ d → ⊥ = λ h. false≢true (sym e ∙ (ap (def_eq bound.0.def) (is_d ∙ sym h) ∙ def-refl bound.0.def)) in
            elim (since bound.0 was) [
              | inl before ↦ absurd (differ (keeps bound.0 t before here ∙ same))
              | inr is ↦ absurd (differ is)
            ]
      ]

  flat_put : (x : Option Slot) (offer : Binding V) (c : Content V) → (x ≡ Some y → (fitted y offer).def ≡ d) → IsBound c m y → Since c → FlatSince c → FlatSince (put_at o m x offer c)
  flat_put None offer c is_d bound since flat = flat
  flat_put (Some x) offer c is_d bound since flat =
      elim (put_cases o m x offer c) [
        | inl still ↦ subst FlatSince (sym still.1) flat
        | inr placed ↦ elim (cases_place m x m y) [
          | inl here ↦
              let placed' : Placed o m y offer c (put o c m x offer) = subst (λ z. Placed o m z offer c (put o c m x offer)) here.1 placed.1 in
              flat_placed offer c (put o c m x offer) placed' (is_d (ap Some here.1)) bound since flat
          | inr apart ↦
              let stays : held (put o c m x offer) m y ≡ held c m y = placed.1.elsewhere m y apart in
              λ keeps t g here by same. flat (λ a b was_a is_b. keeps a b was_a (stays ∙ is_b)) t g (sym stays ∙ here) by same
        ]
      ]

  since_put : (x : Option Slot) (offer : Binding V) (c : Content V) → (x ≡ Some y → (fitted y offer).def ≡ d) → Since c → Since (put_at o m x offer c)
  since_put x offer c is_d since t h =
      elim (held_after o m x offer c m y t h) [
        | inl was ↦ since t was
        | inr new ↦ inr (new.1 ∙ is_d new.0)
      ]

  -- all entries for the slot have this definition
  abbrev AllOf : List (Entry V) → Type 0
  AllOf list = (f : Entry V) → Contains list f → slot_of f ≡ Some y → (fitted y (offered f)).def ≡ d

  flat_rest : (list : List (Entry V)) (c : Content V) → AllOf list → IsBound c m y → Since c → FlatSince c → FlatSince (puts o m list c)
  flat_rest [] c all bound since flat = flat
  flat_rest (e ∷ es) c all bound since flat =
      flat_rest es (put_entry o m e c) (λ f q. all f (later_in e es f q)) (bound_put o m (slot_of e) (offered e) c m y bound)
      (since_put (slot_of e) (offered e) c (all e (first_in e es)) since)
      (flat_put (slot_of e) (offered e) c (all e (first_in e es)) bound since flat)

  module _ (offer : Binding V) (h : GlobId) (is_d : (fitted y offer).def ≡ d) (is_v : (fitted y offer).vis ≡ v) (of : (fitted y offer).import ≡ Some (Glob h)) where
    flat_first : (c : Content V) → Flat (put o c m y offer) × IsBound (put o c m y offer) m y
    flat_first c =
        elim (put_cases o m y offer c) [
          | inl still ↦
              let refused : settled o (held c m y) (fitted y offer) ≡ None = is_none _ still.0 in (
                subst Flat (sym still.1) (λ t g here by same.
                    ap (rises_to o t.vis) (sym is_v)
                    ∙ settled_unraised o t (fitted y offer) g h by of (same ∙ sym is_d) (subst (λ z. settled o z (fitted y offer) ≡ None) here refused)),
                subst (λ z. IsBound z m y) (sym still.1) (there_bound o (held c m y) (fitted y offer) refused),
              )
          | inr placed ↦ (
            λ t g here by same.
                let twice : Some placed.1.now ≡ Some t = sym placed.1.now_is ∙ here in
                let is_t : placed.1.now ≡ t = cc in
                let vis : t.vis ≡ v = ap (λ (z : Binding _). z.vis) (sym is_t) ∙ (settled_vis o _ _ placed.1.now h of placed.1.settles ∙ is_v) in
                ap (rises_to o t.vis) (sym vis) ∙ rises_itself o t.vis,
            (placed.1.now, placed.1.now_is),
          )
        ]

  -- once an entry of this visibility was put
  pub flat_puts : (list : List (Entry V)) (c : Content V) (e : Entry V) (h : GlobId) → Contains list e → slot_of e ≡ Some y → (fitted y (offered e)).vis ≡ v → (fitted y (offered e)).import ≡ Some (Glob h)
      → AllOf list → Since c → FlatSince (puts o m list c)
  flat_puts [] c e h q at is_v of all since = absurd (none_in e q)
  flat_puts (f ∷ es) c e h q at is_v of all since =
      elim (in_cases f es e q) [
        | inr later ↦ flat_puts es (put_entry o m f c) e h later at is_v of (λ g r. all g (later_in f es g r)) (since_put (slot_of f) (offered f) c (all f (first_in f es)) since)
        | inl is ↦
            let at_f : slot_of f ≡ Some y = ap slot_of (sym is) ∙ at in
            let first = flat_first (offered f) h (all f (first_in f es) at_f) (ap (λ (g : Entry _). (fitted y (offered g)).vis) (sym is) ∙ is_v) (ap (λ (g : Entry _). (fitted y (offered g)).import) (sym is) ∙ of) c in
            let now : put_entry o m f c ≡ put o c m y (offered f) = ap (λ x. put_at o m x (offered f) c) at_f in
            flat_rest es (put_entry o m f c) (λ g r. all g (later_in f es g r)) (subst (λ z. IsBound z m y) (sym now) first.1)
            (since_put (slot_of f) (offered f) c (all f (first_in f es)) since)
            (subst FlatSince (sym now) (λ _. first.0))
      ]

  -- copies of what this module holds there only raise it here
  pub flat_copies : (xs : List Slot) (def_of : Slot → Def) {c d : Content V} → Copies o xs def_of c d → IsBound c m y → ((b : Binding V) → held c m y ≡ Some b → b.def ≡ def_of y) → Flat c → Flat d
  flat_copies xs def_of none bound first flat = flat
  flat_copies xs def_of (more {c} {d} s e x k before at within def) bound first flat =
      let before_flat : Flat d = flat_copies xs def_of before bound first flat in
      elim (copy_cases o s e x d) [
        | inl still ↦ subst Flat (sym still.1.same) before_flat
        | inr moved ↦ elim (cases_place e.importer x m y) [
          | inr apart ↦ λ t g here by same. before_flat t g (sym (moved.1.elsewhere m y apart) ∙ here) by same
          | inl place ↦ λ t g here by same.
              let twice : Some moved.1.now ≡ Some t = sym moved.1.now_is ∙ (ap (λ n. held (copied o s e x d) n x) place.0 ∙ (ap (λ z. held (copied o s e x d) m z) place.1 ∙ here)) in
              let is_t : moved.1.now ≡ t = cc in
              let w = bound_copies o xs def_of before m y bound in
              let was : held d e.importer x ≡ Some w.0 = ap (λ n. held d n x) place.0 ∙ (ap (λ z. held d m z) place.1 ∙ w.1) in
              let og = offer_glob o e x moved.1.own in
              let r : settled o (Some w.0) (fitted x (carried o e moved.1.own)) ≡ Some moved.1.now = subst (λ z. settled o z (fitted x (carried o e moved.1.own)) ≡ Some moved.1.now) was moved.1.settles in
              let cases = settled_cases o w.0 (fitted x (carried o e moved.1.own)) moved.1.now og.0 og.1 r in
              let held_def : w.0.def ≡ def_of y = elim (held_or o xs def_of before m y w.0 w.1) [
                | inl was_first ↦ first w.0 was_first
                | inr is ↦ is
              ] in
              let offer_is : (fitted x (carried o e moved.1.own)).def ≡ def_of y =
              offer_def o e x moved.1.own (held-fitted d s x moved.1.own moved.1.own_is) ∙ (def moved.1.own moved.1.own_is ∙ ap def_of place.1) in
              elim cases.2 [
                | replaced n eq f ↦ absurd (false≢true (sym n ∙ (ap (def_eq w.0.def) (offer_is ∙ sym held_def) ∙ def-refl w.0.def)))
                | raised n rise f ↦
                    let w_def : w.0.def ≡ t.def = ap (λ (z : Binding _). z.def) (sym f ∙ is_t) in
                    let up : rises_to o w.0.vis t.vis ≡ true = ap (rises_to o w.0.vis) (ap (λ (z : Binding _). z.vis) (sym is_t ∙ f)) ∙ rise in
                    rises_less o laws w.0.vis t.vis v up (before_flat w.0 cases.0 w.1 cases.1 (w_def ∙ same))
              ]
        ]
      ]

-- the slot of an entry is among the list's
in_slots : {V : Type 0} (list : List (Entry V)) (e : Entry V) (y : Slot) → Contains list e → slot_of e ≡ Some y → Contains (slots_of list) y
in_slots [] e y q at = absurd (none_in e q)
in_slots (f ∷ es) e y q at =
    elim (in_cases f es e q) [
      | inl is ↦
          let one : Contains (option_to_list (slot_of f)) y = subst (λ z. Contains (option_to_list z) y) (sym (ap slot_of (sym is) ∙ at)) (first_in y []) in
          Contains-append_left (option_to_list (slot_of f)) (slots_of es) y one
      | inr later ↦ Contains-append_right (option_to_list (slot_of f)) (slots_of es) y (in_slots es e y later at)
    ]

pub raised_recorded : {V : Type 0} (o : Order V) → IsPartialOrder o.at_most → (m : ModuleId) (list : List (Entry V)) (c c2 : Content V) (xs : List Slot)
    → Copies o xs (def_at (puts o m list c) m) (puts o m list c) c2 → (target : ModuleId) (edge : EdgeTo V) (y : Slot) → edge.importer ≡ m
    → ListsCarried o list c target edge y → HasOneDef list y → KeepsDef c (puts o m list c) m y → held c2 target y ≡ held c target y
    → IsRaisedAlong o c2 target edge y
raised_recorded o laws m list c c2 xs copies target edge y to all one keeps stays b there g own seen here by same =
    let was : held c target y ≡ Some b = sym stays ∙ own in
    let entry = all b was seen in
    let og = offer_glob o edge y b in
    let all_of : (f : Entry _) → Contains list f → slot_of f ≡ Some y → (fitted y (offered f)).def ≡ (fitted y (carried o edge b)).def =
    λ f q at. fitted_def y f entry.0 (one f entry.0 q entry.1 at entry.2) ∙ ap (λ (z : Binding _). z.def) entry.3 in
    let flat : Flat o laws c m y (fitted y (carried o edge b)).def (carried o edge b).vis (puts o m list c) =
    flat_puts o laws c m y (fitted y (carried o edge b)).def (carried o edge b).vis list c entry.0 og.0 entry.1 entry.2
    (ap (λ (z : Binding _). z.vis) entry.3 ∙ fitted_vis y (carried o edge b)) (ap (λ (z : Binding _). z.import) entry.3 ∙ og.1) all_of (λ t h. inl h) keeps in
    let bound : IsBound (puts o m list c) m y = puts_bind o m list c y (in_slots list entry.0 y entry.1 entry.2) in
    flat_copies o laws c m y (fitted y (carried o edge b)).def (carried o edge b).vis xs (def_at (puts o m list c) m) copies bound (λ a h. sym (ap (def_or {V = _}) h)) flat
    there g (ap (λ n. held c2 n y) (sym to) ∙ here) by (same ∙ sym (offer_def o edge y b (held-fitted c target y b was)))
