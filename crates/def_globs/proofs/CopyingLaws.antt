-- What one copy along an edge leaves.
use Rattle.std.proofs.Common.{◌≡◌, Bool, true, false, cond, Option, Some, None, refl, sym, ap, ◌∙◌, subst, inl, inr, ◌⊎◌}
use Rattle.std.specs.Prelude.{is_some}
use Rattle.std.proofs.lemmas.Bool.{false≢true}
use Rattle.def_ids.specs.declared.ids.ModuleId.{ModuleId}
use Rattle.def_ids.specs.declared.ids.GlobId.{GlobId}
use Rattle.def_bindings.specs.declared.bindings.ImportOrExternCrate.TheVariants.{Glob}
use Rattle.def_bindings.specs.declared.bindings.Binding.{Binding}
use Rattle.def_bindings.specs.declared.bindings.EdgeTo.{EdgeTo}
use Rattle.def_bindings.specs.declared.bindings.Slot.{Slot}
use Rattle.def_bindings.specs.declared.bindings.Slot.TheVariants.{Named, Unnamed}
use Rattle.def_bindings.specs.Order.{Order}
use Rattle.def_bindings.specs.Content.{Content}
use Rattle.def_bindings.specs.Puts.{held, fitted, settled, written, unnamed_binding, any_glob, carried, answer, copied}
use Rattle.def_globs.specs.Pending.{is_changed}
use Rattle.def_bindings.specs.Closure.{IsBound}
use Rattle.def_bindings.specs.Slots.{is_same_place}
use Rattle.def_bindings.specs.HeldLaws.{cases_place, held-written_here, held-written_elsewhere, edges-written, held-fitted}
use Rattle.def_globs.proofs.SettlingLaws.{raised, replaced, settled_cases, settled_def}

-- what an edge offers is by a glob
pub offer_glob : {V : Type 0} (o : Order V) (e : EdgeTo V) (x : Slot) (b : Binding V) → (h : GlobId) × ((fitted x (carried o e b)).import ≡ Some (Glob h))
offer_glob o e (Named n ns) b = (e.glob, refl)
offer_glob o e (Unnamed t) b = (any_glob, refl)

-- what an edge offers has the definition of what its source binds
pub offer_def : {V : Type 0} (o : Order V) (e : EdgeTo V) (x : Slot) (b : Binding V) → fitted x b ≡ b → (fitted x (carried o e b)).def ≡ b.def
offer_def o e (Named n ns) b h = refl
offer_def o e (Unnamed t) b h = ap (λ y. y.def) h

-- a copy that changes something
pub record Moved {V : Type 0} (o : Order V) (source : ModuleId) (e : EdgeTo V) (x : Slot) (c c' : Content V) : Type 0 where
  pub own : Binding V
  pub now : Binding V
  pub own_is : held c source x ≡ Some own
  pub seen : o.can_see e.importer own.vis ≡ true
  pub settles : settled o (held c e.importer x) (fitted x (carried o e own)) ≡ Some now
  pub now_is : held c' e.importer x ≡ Some now
  pub now_def : now.def ≡ own.def
  pub elsewhere : (n : ModuleId) (y : Slot) → is_same_place e.importer x n y ≡ false → held c' n y ≡ held c n y
  pub same_edges : c'.edges ≡ c.edges

-- a copy that changes nothing: the source binds nothing there, or nothing that is seen, or the offer is refused
pub record Still {V : Type 0} (o : Order V) (source : ModuleId) (e : EdgeTo V) (x : Slot) (c c' : Content V) : Type 0 where
  pub same : c' ≡ c
  pub refused : (own : Binding V) → held c source x ≡ Some own → o.can_see e.importer own.vis ≡ true → settled o (held c e.importer x) (fitted x (carried o e own)) ≡ None

-- what is settled at an unnamed trait's slot is an unnamed trait's binding
settled_unnamed : {V : Type 0} (o : Order V) (t : _) (v : V) (a : Binding V) (there : Option (Binding V))
    → ((b : Binding V) → there ≡ Some b → unnamed_binding t b.vis ≡ b)
    → settled o there (unnamed_binding t v) ≡ Some a → unnamed_binding t a.vis ≡ a
settled_unnamed o t v a None k h = let e : unnamed_binding t v ≡ a = cc in subst (λ y. unnamed_binding t y.vis ≡ y) e refl
settled_unnamed o t v a (Some b) k h =
    elim (settled_cases o b (unnamed_binding t v) a any_glob refl h).2 [
      | raised d r f ↦
          let e : b ≡ unnamed_binding t b.vis = sym (k b refl) in
          let g : a ≡ unnamed_binding t v = f ∙ ap (λ (y : Binding _). record y { vis = v }) e in
          subst (λ y. unnamed_binding t y.vis ≡ y) (sym g) refl
      | replaced d r f ↦ subst (λ y. unnamed_binding t y.vis ≡ y) (sym f) refl
    ]

-- what is settled at a slot fits it
pub settled_fitted : {V : Type 0} (o : Order V) (c : Content V) (m : ModuleId) (x : Slot) (offer a : Binding V) → settled o (held c m x) (fitted x offer) ≡ Some a → fitted x a ≡ a
settled_fitted o c m (Named n ns) offer a h = refl
settled_fitted o c m (Unnamed t) offer a h = settled_unnamed o t offer.vis a (held c m (Unnamed t)) (held-fitted c m (Unnamed t)) h

by_settled : {V : Type 0} (o : Order V) (source : ModuleId) (e : EdgeTo V) (x : Slot) (c : Content V) (own : Binding V) (r : Option (Binding V))
    → held c source x ≡ Some own → o.can_see e.importer own.vis ≡ true
    → settled o (held c e.importer x) (fitted x (carried o e own)) ≡ r
    → ((r ≡ None) × Still o source e x c (written c e.importer x r)) ⊎ (is_some r ≡ true) × Moved o source e x c (written c e.importer x r)
by_settled o source e x c own None i j k = inl (refl, record { same = refl; refused = λ own' i' j'. let f : own ≡ own' = cc in subst (λ y. settled o (held c e.importer x) (fitted x (carried o e y)) ≡ None) f k })
by_settled o source e x c own (Some a) i j k = inr (
  refl,
  record {
    own = own;
    now = a;
    own_is = i;
    seen = j;
    settles = k;
    now_is = held-written_here c e.importer x a ∙ ap Some (settled_fitted o c e.importer x (carried o e own) a k);
    now_def = settled_def o _ _ a _ (offer_glob o e x own).1 k ∙ offer_def o e x own (held-fitted c source x own i);
    elsewhere = λ n y h. held-written_elsewhere c e.importer x (Some a) n y h;
    same_edges = edges-written c e.importer x (Some a);
  },
)

-- the outcome of a copy, by what it answered
abbrev Outcome : {V : Type 0} → Order V → ModuleId → EdgeTo V → Slot → Content V → Option (Binding V) → Type 0
Outcome o source e x c r = ((is_some r ≡ false) × Still o source e x c (written c e.importer x r)) ⊎ ((is_some r ≡ true) × Moved o source e x c (written c e.importer x r))

outcome_seen : {V : Type 0} (o : Order V) (source : ModuleId) (e : EdgeTo V) (x : Slot) (c : Content V) (own : Binding V) (v : Bool)
    → held c source x ≡ Some own → o.can_see e.importer own.vis ≡ v
    → Outcome o source e x c (cond v (settled o (held c e.importer x) (fitted x (carried o e own))) None)
outcome_seen o source e x c own true i j =
    elim (by_settled o source e x c own (settled o (held c e.importer x) (fitted x (carried o e own))) i j refl) [
      | inl h ↦ inl (ap is_some h.0, h.1)
      | inr h ↦ inr h
    ]
outcome_seen o source e x c own false i j = inl (refl, record { same = refl; refused = λ own' i' j'. let f : own ≡ own' = cc in absurd (false≢true (sym j ∙ (ap (λ y. o.can_see e.importer y.vis) f ∙ j'))) })

outcome_own : {V : Type 0} (o : Order V) (source : ModuleId) (e : EdgeTo V) (x : Slot) (c : Content V) (h : Option (Binding V))
    → held c source x ≡ h → Outcome o source e x c (answer o e x h (held c e.importer x))
outcome_own o source e x c None i = inl (refl, record { same = refl; refused = λ own i' j'. cc })
outcome_own o source e x c (Some own) i = outcome_seen o source e x c own _ i refl

-- a copy changes nothing, or moves one binding
pub copy_cases : {V : Type 0} (o : Order V) (source : ModuleId) (e : EdgeTo V) (x : Slot) (c : Content V)
    → ((is_changed o source e x c ≡ false) × Still o source e x c (copied o source e x c)) ⊎ ((is_changed o source e x c ≡ true) × Moved o source e x c (copied o source e x c))
copy_cases o source e x c = outcome_own o source e x c (held c source x) refl

-- a copy leaves the edges, and what was bound is bound
module _ {V : Type 0} (o : Order V) (s : ModuleId) (e : EdgeTo V) (x : Slot) (c : Content V) where
  pub edges_copied : (copied o s e x c).edges ≡ c.edges
  edges_copied = edges-written c e.importer x (answer o e x (held c s x) (held c e.importer x))

  pub bound_copied : (n : ModuleId) (y : Slot) → IsBound c n y → IsBound (copied o s e x c) n y
  bound_copied n y bound =
      elim (copy_cases o s e x c) [
        | inl still ↦ subst (λ d. IsBound d n y) (sym still.1.same) bound
        | inr moved ↦ elim (cases_place e.importer x n y) [
          | inl here ↦ (moved.1.now, ap (λ m. held (copied o s e x c) m y) (sym here.0) ∙ (ap (λ z. held (copied o s e x c) e.importer z) (sym here.1) ∙ moved.1.now_is))
          | inr apart ↦ (bound.0, moved.1.elsewhere n y apart ∙ bound.1)
        ]
      ]
