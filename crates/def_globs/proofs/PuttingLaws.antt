-- What puts leave: a put changes nothing or one place, and what was put is bound.
use Rattle.std.specs.Prelude.{◌≡◌, Bool, true, false, cond, is_some, Option, Some, None, List, [], ◌∷◌, ◌⊎◌, Contains, option_to_list, refl}
use Rattle.std.proofs.Common.{sym, ap, ◌∙◌, subst, inl, inr}
use Rattle.std.proofs.lemmas.List.Elements.{Contains-append_left, Contains-append_right, Contains-append_cases}
use Rattle.def_ids.specs.declared.ids.ModuleId.{ModuleId}
use Rattle.def_ids.specs.declared.ids.GlobId.{GlobId}
use Rattle.def_bindings.specs.declared.bindings.Binding.{Binding}
use Rattle.def_bindings.specs.declared.bindings.Entry.{Entry}
use Rattle.def_bindings.specs.declared.bindings.Slot.{Slot}
use Rattle.def_bindings.specs.Order.{Order}
use Rattle.def_bindings.specs.Content.{Content}
use Rattle.def_bindings.specs.Puts.{glob_of, held, fitted, settled, settled_over, written, put, put_at, put_entry, puts, slot_of, offered}
use Rattle.def_bindings.specs.Closure.{IsBound}
use Rattle.def_globs.specs.Waves.{slots_of}
use Rattle.def_globs.proofs.ListLaws.{first_in, none_in, only_in}
use Rattle.def_bindings.specs.Slots.{is_same_place}
use Rattle.def_bindings.specs.HeldLaws.{cases_place, held-written_here, held-written_elsewhere, edges-written}
use Rattle.def_globs.proofs.CopyingLaws.{settled_fitted}

-- a place that changes takes the offer, or is raised
settled_three : {V : Type 0} (there offer a : Binding V) (p q r : Bool)
    → cond p (cond q (Some (record there { vis = offer.vis })) None) (cond r (Some offer) None) ≡ Some a
    → (a ≡ offer) ⊎ (a ≡ record there { vis = offer.vis })
settled_three there offer a true true r e = inr cc
settled_three there offer a true false r e = cc
settled_three there offer a false q true e = inl cc
settled_three there offer a false q false e = cc

settled_any_over : {V : Type 0} (o : Order V) (there offer a : Binding V) (p q : Option GlobId) → settled_over o there offer p q ≡ Some a
    → (a ≡ offer) ⊎ (a ≡ record there { vis = offer.vis })
settled_any_over o there offer a (Some g) (Some h) e = settled_three there offer a _ _ _ e
settled_any_over o there offer a (Some g) None e = inl cc
settled_any_over o there offer a None q e = cc

pub settled_any : {V : Type 0} (o : Order V) (there : Option (Binding V)) (offer a : Binding V) → settled o there offer ≡ Some a
    → (a ≡ offer) ⊎ ((t : Binding V) × (there ≡ Some t) × (a ≡ record t { vis = offer.vis }))
settled_any o None offer a e = inl cc
settled_any o (Some t) offer a e = elim (settled_any_over o t offer a (glob_of t.import) (glob_of offer.import) e) [ inl f ↦ inl f | inr f ↦ inr (t, refl, f) ]

-- a put that changes a place
pub record Placed {V : Type 0} (o : Order V) (m : ModuleId) (x : Slot) (offer : Binding V) (c c' : Content V) : Type 0 where
  pub now : Binding V
  pub settles : settled o (held c m x) (fitted x offer) ≡ Some now
  pub now_is : held c' m x ≡ Some now
  pub elsewhere : (n : ModuleId) (y : Slot) → is_same_place m x n y ≡ false → held c' n y ≡ held c n y
  pub same_edges : c'.edges ≡ c.edges

by_result : {V : Type 0} (o : Order V) (m : ModuleId) (x : Slot) (offer : Binding V) (c : Content V) (r : Option (Binding V))
    → settled o (held c m x) (fitted x offer) ≡ r
    → ((is_some r ≡ false) × (written c m x r ≡ c)) ⊎ ((is_some r ≡ true) × Placed o m x offer c (written c m x r))
by_result o m x offer c None h = inl (refl, refl)
by_result o m x offer c (Some a) h = inr (
  refl,
  record {
    now = a;
    settles = h;
    now_is = held-written_here c m x a ∙ ap Some (settled_fitted o c m x offer a h);
    elsewhere = λ n y k. held-written_elsewhere c m x (Some a) n y k;
    same_edges = edges-written c m x (Some a);
  },
)

-- a put changes nothing, or one place
pub put_cases : {V : Type 0} (o : Order V) (m : ModuleId) (x : Slot) (offer : Binding V) (c : Content V)
    → ((is_some (settled o (held c m x) (fitted x offer)) ≡ false) × (put o c m x offer ≡ c))
    ⊎ ((is_some (settled o (held c m x) (fitted x offer)) ≡ true) × Placed o m x offer c (put o c m x offer))
put_cases o m x offer c = by_result o m x offer c _ refl

pub bound_placed : {V : Type 0} (o : Order V) (m : ModuleId) (x : Slot) (offer : Binding V) (c c' : Content V) (n : ModuleId) (y : Slot) → Placed o m x offer c c' → IsBound c n y → IsBound c' n y
bound_placed o m x offer c c' n y placed bound =
    elim (cases_place m x n y) [
      | inl here ↦ (placed.now, ap (λ k. held c' k y) (sym here.0) ∙ (ap (λ z. held c' m z) (sym here.1) ∙ placed.now_is))
      | inr apart ↦ (bound.0, placed.elsewhere n y apart ∙ bound.1)
    ]

pub edges_put : {V : Type 0} (o : Order V) (m : ModuleId) (x : Option Slot) (offer : Binding V) (c : Content V) → (put_at o m x offer c).edges ≡ c.edges
edges_put o m None offer c = refl
edges_put o m (Some x) offer c = edges-written c m x _

pub edges_puts : {V : Type 0} (o : Order V) (m : ModuleId) (list : List (Entry V)) (c : Content V) → (puts o m list c).edges ≡ c.edges
edges_puts o m [] c = refl
edges_puts o m (e ∷ es) c = edges_puts o m es (put_entry o m e c) ∙ edges_put o m (slot_of e) (offered e) c

module _ {V : Type 0} (o : Order V) (m : ModuleId) where
  outside_put : (x : Option Slot) (offer : Binding V) (c : Content V) (n : ModuleId) (y : Slot) → (Contains (option_to_list x) y → ⊥) → held (put_at o m x offer c) n y ≡ held c n y
  outside_put None offer c n y out = refl
  outside_put (Some x) offer c n y out =
      elim (put_cases o m x offer c) [
        | inl still ↦ ap (λ z. held z n y) still.1
        | inr placed ↦ elim (cases_place m x n y) [
          | inl here ↦ absurd (out (subst (Contains (x ∷ [])) here.1 (first_in x [])))
          | inr apart ↦ placed.1.elsewhere n y apart
        ]
      ]

  pub outside_puts : (list : List (Entry V)) (c : Content V) (n : ModuleId) (y : Slot) → (Contains (slots_of list) y → ⊥) → held (puts o m list c) n y ≡ held c n y
  outside_puts [] c n y out = refl
  outside_puts (e ∷ es) c n y out =
      outside_puts es (put_entry o m e c) n y (λ h. out (Contains-append_right (option_to_list (slot_of e)) (slots_of es) y h))
      ∙ outside_put (slot_of e) (offered e) c n y (λ h. out (Contains-append_left (option_to_list (slot_of e)) (slots_of es) y h))

  pub bound_put : (x : Option Slot) (offer : Binding V) (c : Content V) (n : ModuleId) (y : Slot) → IsBound c n y → IsBound (put_at o m x offer c) n y
  bound_put None offer c n y bound = bound
  bound_put (Some x) offer c n y bound =
      elim (put_cases o m x offer c) [
        | inl still ↦ subst (λ d. IsBound d n y) (sym still.1) bound
        | inr placed ↦ bound_placed o m x offer c (put o c m x offer) n y placed.1 bound
      ]

  bound_puts : (list : List (Entry V)) (c : Content V) (n : ModuleId) (y : Slot) → IsBound c n y → IsBound (puts o m list c) n y
  bound_puts [] c n y bound = bound
  bound_puts (e ∷ es) c n y bound = bound_puts es (put_entry o m e c) n y (bound_put (slot_of e) (offered e) c n y bound)

  -- a slot that was put is bound, taken or not
  there_bound : (there : Option (Binding V)) (offer : Binding V) → is_some (settled o there offer) ≡ false → (b : Binding V) × (there ≡ Some b)
  there_bound None offer h = cc
  there_bound (Some b) offer h = (b, refl)

  put_binds : (x : Option Slot) (offer : Binding V) (c : Content V) (y : Slot) → Contains (option_to_list x) y → IsBound (put_at o m x offer c) m y
  put_binds None offer c y h = absurd (none_in y h)
  put_binds (Some x) offer c y h =
      let is_x : y ≡ x = only_in x y h in
      subst (λ z. IsBound (put_at o m (Some x) offer c) m z) (sym is_x)
      (elim (put_cases o m x offer c) [
        | inl still ↦ subst (λ d. IsBound d m x) (sym still.1) (there_bound (held c m x) (fitted x offer) still.0)
        | inr placed ↦ (placed.1.now, placed.1.now_is)
      ])

  pub puts_bind : (list : List (Entry V)) (c : Content V) (y : Slot) → Contains (slots_of list) y → IsBound (puts o m list c) m y
  puts_bind [] c y h = absurd (none_in y h)
  puts_bind (e ∷ es) c y h =
      elim (Contains-append_cases (option_to_list (slot_of e)) (slots_of es) y h) [
        | inl now ↦ bound_puts es (put_entry o m e c) m y (put_binds (slot_of e) (offered e) c y now)
        | inr later ↦ puts_bind es (put_entry o m e c) y later
      ]
