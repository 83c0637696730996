-- What putting a list in a module leaves closed and coherent but for what it changed.
use Rattle.std.proofs.Common.{◌≡◌, ℕ, Bool, true, false, cond, Option, Some, None, List, [], ◌∷◌, sym, ap, ◌∙◌, subst, inl, inr, ◌⊎◌}
use Rattle.std.specs.Prelude.{slice_get, Contains}
use Rattle.std.proofs.lemmas.List.Elements.{Contains-append_left, Contains-append_right}
use Rattle.tree_ids.specs.declared.name.Name.{Name}
use Rattle.def_ids.specs.declared.ids.ModuleId.{ModuleId}
use Rattle.def_ids.specs.declared.ids.GlobId.{GlobId}
use Rattle.def_ids.specs.declared.ids.Def.{Def}
use Rattle.def_ids.specs.declared.ids.Def.TheVariants.{Trait}
use Rattle.def_bindings.specs.declared.bindings.Namespace.{Namespace}
use Rattle.def_bindings.specs.declared.bindings.Namespace.TheVariants.{Types}
use Rattle.def_bindings.specs.declared.bindings.ImportOrExternCrate.TheVariants.{Glob}
use Rattle.def_bindings.specs.declared.bindings.Binding.{Binding}
use Rattle.def_bindings.specs.declared.bindings.EdgeTo.{EdgeTo}
use Rattle.def_bindings.specs.declared.bindings.Entry.{Entry}
use Rattle.def_bindings.specs.declared.bindings.Slot.{Slot}
use Rattle.def_bindings.specs.declared.bindings.Slot.TheVariants.{Named}
use Rattle.def_bindings.specs.Order.{Order}
use Rattle.def_bindings.specs.Content.{Content}
use Rattle.def_bindings.specs.Puts.{held, settled, put, put_at, put_entry, puts, slot_for, slot_of, offered}
use Rattle.def_bindings.specs.Closure.{IsBound, Follows}
use Rattle.def_globs.specs.Waves.{Leads, LedOrHome}
use Rattle.def_globs.specs.Pending.{changed_at, changed_by, Pending, ClosedBut, CoherentBut}
use Rattle.def_globs.proofs.ListLaws.{first_in, later_in}
use Rattle.def_bindings.specs.Slots.{is_same_place}
use Rattle.def_bindings.specs.HeldLaws.{cases_place}
use Rattle.def_globs.proofs.PuttingLaws.{settled_any, Placed, put_cases, bound_placed}
use Rattle.def_globs.proofs.CoheringLemmas.{leads_moved, absurd_apart}

module _ {V : Type 0} (o : Order V) (left_out : ModuleId → Bool) (P : Pending) (m : ModuleId) (x : Slot) (offer : Binding V) (c c' : Content V)
    (placed : Placed o m x offer c c') (pends : (j : ℕ) → P m j x) where
  closed_placed : ClosedBut o left_out P c → ClosedBut o left_out P c'
  closed_placed closed s k e y b at left h seen =
      elim (cases_place m x s y) [
        | inl here ↦ inr (subst (λ n. P n k y) here.0 (subst (λ z. P m k z) here.1 (pends k)))
        | inr apart ↦
            elim (closed s k e y b (ap (λ (f : ModuleId → List (EdgeTo _)). slice_get (f s) k) (sym placed.same_edges) ∙ at) left (sym (placed.elsewhere s y apart) ∙ h) seen) [
              | inl bound ↦ inl (bound_placed o m x offer c c' e.importer y placed bound)
              | inr p ↦ inr p
            ]
      ]

  module _ (target_of : GlobId → Option ModuleId) where
    led_placed : LedOrHome left_out target_of m c → LedOrHome left_out target_of m c'
    led_placed led i name ns b g t here by known li lt =
        elim (cases_place m x i (Named name ns)) [
          | inl same ↦ inl (sym same.0)
          | inr apart ↦
              elim (led i name ns b g t (sym (placed.elsewhere i (Named name ns) apart) ∙ here) by known li lt) [
                | inl at_home ↦ inl at_home
                | inr lead ↦ inr (leads_moved c c' t i g _ (λ _. Unit {0}) placed.same_edges lead tt)
              ]
        ]

    -- what an offer by a glob with a known target says, its target binds
    abbrev pub OfferFollows : Type 0
    OfferFollows = (name : Name) (ns : Namespace) (g : GlobId) (t : ModuleId) → x ≡ Named name ns → offer.import ≡ Some (Glob g) → target_of g ≡ Some t → left_out m ≡ false → left_out t ≡ false
        → (t ≡ m) ⊎ ((b : Binding V) × (held c t (Named name ns) ≡ Some b) × (b.def ≡ offer.def))

    abbrev Goal : ModuleId → Name → Namespace → Binding V → GlobId → ModuleId → Type 0
    Goal i name ns b g t = Follows o c' t i (Named name ns) b.def ⊎ (IsBound c' t (Named name ns) × Leads c' t i g (λ index. P t index (Named name ns)))

    -- a binding that stays, whose target's binding stays
    carry : CoherentBut o left_out target_of P c → (i : ModuleId) (name : Name) (ns : Namespace) (b : Binding V) (g : GlobId) (t : ModuleId)
        → held c' t (Named name ns) ≡ held c t (Named name ns) → c.binding i name ns ≡ Some b → b.import ≡ Some (Glob g) → target_of g ≡ Some t
        → left_out i ≡ false → left_out t ≡ false → Goal i name ns b g t
    carry coherent i name ns b g t same here by known li lt =
        elim (coherent i name ns b g t here by known li lt) [
          | inl follows ↦ inl (follows.0, same ∙ follows.1, follows.2)
          | inr p ↦ inr ((p.0.0, same ∙ p.0.1), leads_moved c c' t i g _ (λ index. P t index (Named name ns)) placed.same_edges p.1 p.1.1.4)
        ]

    -- the binding that the put made
    taken : OfferFollows → CoherentBut o left_out target_of P c → (name : Name) (ns : Namespace) (b : Binding V) (g : GlobId) (t : ModuleId)
        → x ≡ Named name ns → settled o (c.binding m name ns) offer ≡ Some b → b.import ≡ Some (Glob g) → target_of g ≡ Some t → left_out m ≡ false → left_out t ≡ false
        → is_same_place m (Named name ns) t (Named name ns) ≡ false → held c' t (Named name ns) ≡ held c t (Named name ns) → Goal m name ns b g t
    taken offers coherent name ns b g t is_x settles by known lm lt apart same =
        elim (settled_any o (c.binding m name ns) offer b settles) [
          | inl f ↦
              elim (offers name ns g t is_x (sym (ap (λ n. n.import) f) ∙ by) known lm lt) [
                | inl itself ↦ absurd (absurd_apart m (Named name ns) (subst (λ n. is_same_place m (Named name ns) n (Named name ns) ≡ false) itself apart))
                | inr bound ↦ inl (bound.0, same ∙ bound.1, inl (bound.2 ∙ sym (ap (λ n. n.def) f)))
              ]
          | inr r ↦
              let old_by : r.0.import ≡ Some (Glob g) = sym (ap (λ n. n.import) r.2) ∙ by in
              let same_def : r.0.def ≡ b.def = sym (ap (λ n. n.def) r.2) in
              elim (coherent m name ns r.0 g t r.1 old_by known lm lt) [
                | inl follows ↦ inl (follows.0, same ∙ follows.1, subst (λ d. (follows.0.def ≡ d) ⊎ (o.can_see m follows.0.vis ≡ false)) same_def follows.2)
                | inr p ↦ inr ((p.0.0, same ∙ p.0.1), leads_moved c c' t m g _ (λ index. P t index (Named name ns)) placed.same_edges p.1 p.1.1.4)
              ]
        ]

    coherent_placed : OfferFollows → LedOrHome left_out target_of m c → CoherentBut o left_out target_of P c → CoherentBut o left_out target_of P c'
    coherent_placed offers led coherent i name ns b g t here by known li lt =
        elim (cases_place m x t (Named name ns)) [
          -- the target is the module itself, at this very slot
          | inl at_target ↦
              let target_is : held c' t (Named name ns) ≡ Some placed.now = ap (λ n. held c' n (Named name ns)) (sym at_target.0) ∙ (ap (λ n. held c' m n) (sym at_target.1) ∙ placed.now_is) in
              elim (cases_place m x i (Named name ns)) [
                | inl same ↦
                    let f : Some placed.now ≡ Some b = sym target_is ∙ (ap (λ n. held c' n (Named name ns)) (sym at_target.0 ∙ same.0) ∙ here) in
                    let is_b : placed.now ≡ b = cc in
                    inl (placed.now, target_is, inl (ap (λ (z : Binding _). z.def) is_b))
                | inr apart ↦
                    elim (led i name ns b g t (sym (placed.elsewhere i (Named name ns) apart) ∙ here) by known li lt) [
                      | inl at_home ↦
                          let no : is_same_place m x m x ≡ false = subst (λ y. is_same_place m x m y ≡ false) (sym at_target.1) (subst (λ n. is_same_place m x n (Named name ns) ≡ false) at_home apart) in
                          absurd (absurd_apart m x no)
                      | inr lead ↦
                          inr (
                            (placed.now, target_is),
                            leads_moved c c' t i g _ (λ index. P t index (Named name ns)) placed.same_edges lead
                                (subst (λ n. P n lead.0 (Named name ns)) at_target.0 (subst (λ y. P m lead.0 y) at_target.1 (pends lead.0))),
                          )
                    ]
              ]
          | inr target_apart ↦
              let target_same = placed.elsewhere t (Named name ns) target_apart in
              elim (cases_place m x i (Named name ns)) [
                | inr apart ↦ carry coherent i name ns b g t target_same (sym (placed.elsewhere i (Named name ns) apart) ∙ here) by known li lt
                | inl same ↦
                    let placed' : Placed o m (Named name ns) offer c c' = subst (λ y. Placed o m y offer c c') same.1 placed in
                    let f : Some placed'.now ≡ Some b = sym placed'.now_is ∙ (ap (λ n. held c' n (Named name ns)) same.0 ∙ here) in
                    let is_b : placed'.now ≡ b = cc in
                    let apart' : is_same_place m (Named name ns) t (Named name ns) ≡ false = subst (λ y. is_same_place m y t (Named name ns) ≡ false) same.1 target_apart in
                    let result = taken offers coherent name ns b g t same.1 (subst (λ (z : Binding _). settled o (c.binding m name ns) offer ≡ Some z) is_b placed'.settles) by known (ap left_out same.0 ∙ li) lt apart' target_same in
                    subst (λ n. Goal n name ns b g t) same.0 result
              ]
        ]

pub in_changed : (changed : Bool) (x : Slot) → changed ≡ true → Contains (cond changed (x ∷ []) []) x
in_changed true x h = first_in x []
in_changed false x h = cc

-- another module's bindings stay
held_put : {V : Type 0} (o : Order V) (m : ModuleId) (x : Option Slot) (offer : Binding V) (c : Content V) (t : ModuleId) (y : Slot) (b : Binding V)
    → held c t y ≡ Some b → (t ≡ m) ⊎ (held (put_at o m x offer c) t y ≡ Some b)
held_put o m None offer c t y b h = inr h
held_put o m (Some x) offer c t y b h =
    elim (put_cases o m x offer c) [
      | inl still ↦ inr (ap (λ d. held d t y) still.1 ∙ h)
      | inr placed ↦ elim (cases_place m x t y) [
        | inl here ↦ inl (sym here.0)
        | inr apart ↦ inr (placed.1.elsewhere t y apart ∙ h)
      ]
    ]

-- the name and the namespace of an entry are those of its slot
slot_name : (n : Option Name) (k : Namespace) (d : Def) (name : Name) (ns : Namespace) → slot_for n k d ≡ Some (Named name ns) → (n ≡ Some name) × (k ≡ ns)
slot_name (Some n) k d name ns h = (cc, cc)
slot_name None Types (Trait t) name ns h = cc
slot_name None _ _ name ns h = cc

pub named_entry : {V : Type 0} (e : Entry V) (name : Name) (ns : Namespace) (t m : ModuleId) (c : Content V) → slot_of e ≡ Some (Named name ns)
    → (e.name ≡ Some name → (t ≡ m) ⊎ ((b : Binding V) × (held c t (Named name e.ns) ≡ Some b) × (b.def ≡ e.def)))
    → (t ≡ m) ⊎ ((b : Binding V) × (held c t (Named name ns) ≡ Some b) × (b.def ≡ e.def))
named_entry e name ns t m c h f =
    let s = slot_name e.name e.ns e.def name ns h in
    subst (λ k. (t ≡ m) ⊎ ((b : Binding _) × (held c t (Named name k) ≡ Some b) × (b.def ≡ e.def))) s.1 (f s.0)

module _ {V : Type 0} (o : Order V) (left_out : ModuleId → Bool) (P : Pending) (m : ModuleId) where
  pub closed_put : (x : Option Slot) (offer : Binding V) (c : Content V) → ((y : Slot) → Contains (changed_at o m x offer c) y → (j : ℕ) → P m j y)
      → ClosedBut o left_out P c → ClosedBut o left_out P (put_at o m x offer c)
  closed_put None offer c pends closed = closed
  closed_put (Some x) offer c pends closed =
      elim (put_cases o m x offer c) [
        | inl still ↦ subst (λ d. ClosedBut o left_out P d) (sym still.1) closed
        | inr placed ↦ closed_placed o left_out P m x offer c (put o c m x offer) placed.1 (pends x (in_changed _ x placed.0)) closed
      ]

  pub closed_puts : (list : List (Entry V)) (c : Content V) → ((y : Slot) → Contains (changed_by o m list c) y → (j : ℕ) → P m j y)
      → ClosedBut o left_out P c → ClosedBut o left_out P (puts o m list c)
  closed_puts [] c pends closed = closed
  closed_puts (e ∷ es) c pends closed =
      closed_puts es (put_entry o m e c) (λ y h. pends y (Contains-append_right (changed_at o m (slot_of e) (offered e) c) _ y h))
      (closed_put (slot_of e) (offered e) c (λ y h. pends y (Contains-append_left _ (changed_by o m es (put_entry o m e c)) y h)) closed)

  module _ (target_of : GlobId → Option ModuleId) where
    coherent_put : (x : Option Slot) (offer : Binding V) (c : Content V) → ((y : Slot) → Contains (changed_at o m x offer c) y → (j : ℕ) → P m j y)
        → ((name : Name) (ns : Namespace) (g : GlobId) (t : ModuleId) → x ≡ Some (Named name ns) → offer.import ≡ Some (Glob g) → target_of g ≡ Some t → left_out m ≡ false → left_out t ≡ false
        → (t ≡ m) ⊎ ((b : Binding V) × (held c t (Named name ns) ≡ Some b) × (b.def ≡ offer.def)))
        → LedOrHome left_out target_of m c → CoherentBut o left_out target_of P c
        → CoherentBut o left_out target_of P (put_at o m x offer c) × LedOrHome left_out target_of m (put_at o m x offer c)
    coherent_put None offer c pends offers led coherent = (coherent, led)
    coherent_put (Some x) offer c pends offers led coherent =
        elim (put_cases o m x offer c) [
          | inl still ↦ (subst (λ d. CoherentBut o left_out target_of P d) (sym still.1) coherent, subst (λ d. LedOrHome left_out target_of m d) (sym still.1) led)
          | inr placed ↦
              let pends_x : (j : ℕ) → P m j x = pends x (in_changed _ x placed.0) in (
                coherent_placed o left_out P m x offer c (put o c m x offer) placed.1 pends_x target_of (λ name ns g t h. offers name ns g t (ap Some h)) led coherent,
                led_placed o left_out P m x offer c (put o c m x offer) placed.1 pends_x target_of led,
              )
        ]

    -- an entry by a glob with a known target has the definition that the target binds, unless that is the module itself
    abbrev Follow : List (Entry V) → Content V → Type 0
    Follow list c = (e : Entry V) (name : Name) (g : GlobId) (t : ModuleId) → Contains list e → e.name ≡ Some name → e.origin ≡ Some (Glob g) → target_of g ≡ Some t → left_out m ≡ false → left_out t ≡ false
        → (t ≡ m) ⊎ ((b : Binding V) × (held c t (Named name e.ns) ≡ Some b) × (b.def ≡ e.def))

    pub coherent_puts : (list : List (Entry V)) (c : Content V) → ((y : Slot) → Contains (changed_by o m list c) y → (j : ℕ) → P m j y)
        → Follow list c → LedOrHome left_out target_of m c → CoherentBut o left_out target_of P c
        → CoherentBut o left_out target_of P (puts o m list c) × LedOrHome left_out target_of m (puts o m list c)
    coherent_puts [] c pends follow led coherent = (coherent, led)
    coherent_puts (e ∷ es) c pends follow led coherent =
        let one = coherent_put (slot_of e) (offered e) c (λ y h. pends y (Contains-append_left _ (changed_by o m es (put_entry o m e c)) y h))
        (λ name ns g t h by known lm lt. named_entry e name ns t m c h (λ n. follow e name g t (first_in e es) n by known lm lt)) led coherent in
        coherent_puts es (put_entry o m e c) (λ y h. pends y (Contains-append_right (changed_at o m (slot_of e) (offered e) c) _ y h))
        (λ e' name g t q n by known lm lt. elim (follow e' name g t (later_in e es e' q) n by known lm lt) [
          | inl itself ↦ inl itself
          | inr bound ↦ elim (held_put o m (slot_of e) (offered e) c t (Named name e'.ns) bound.0 bound.1) [
            | inl itself ↦ inl itself
            | inr now ↦ inr (bound.0, now, bound.2)
          ]
        ])
        one.1 one.0
