-- What an update keeps, by what its two parts ensure.
use Rattle.std.proofs.Common.{◌≡◌, ℕ, Bool, true, false, cond, Option, Some, None, List, [], ◌∷◌, refl, sym, ap, ◌∙◌, subst, inl, inr, arith}
use Rattle.std.specs.Prelude.{is_some, ◌&&◌, length, take, slice_get, Contains, option_to_list}
use Rattle.std.proofs.lemmas.List.{take_all}
use Rattle.std.proofs.lemmas.List.Elements.{Contains-append_left, Contains-append_right, Contains-append_cases}
use Rattle.def_ids.specs.declared.ids.ModuleId.{ModuleId}
use Rattle.def_ids.specs.declared.ids.GlobId.{GlobId}
use Rattle.def_ids.specs.declared.ids.Def.{Def}
use Rattle.def_bindings.specs.declared.bindings.Binding.{Binding}
use Rattle.def_bindings.specs.declared.bindings.EdgeTo.{EdgeTo}
use Rattle.def_bindings.specs.declared.bindings.Entry.{Entry}
use Rattle.def_bindings.specs.declared.bindings.Slot.{Slot}
use Rattle.def_bindings.specs.declared.bindings.Slot.TheVariants.{Named}
use Rattle.def_ids.specs.Ids.{is_same_module}
use Rattle.def_bindings.specs.IdLaws.{same_module_equal}
use Rattle.def_bindings.specs.Slots.{is_same_slot}
use Rattle.def_bindings.specs.PutsLaws.{held_elsewhere-put_entry}
use Rattle.std.proofs.lemmas.Bool.{cases_Bool}
use Rattle.def_bindings.specs.Order.{Order, IsPartialOrder}
use Rattle.def_bindings.specs.Content.{Content}
use Rattle.def_bindings.specs.Puts.{held, put_entry, puts, slot_of, offered}
use Rattle.def_bindings.specs.Closure.{IsClosed, IsCoherent}
use Rattle.def_globs.specs.Waves.{Copies, none, more, def_at, def_or, slots_of, BeginsAt, LedOrHome, EntriesFollow, ListsAll, IsClosedTo, KeepsGlobs}
use Rattle.def_globs.proofs.RecordingLaws.{bound_copies, edges_updated, recorded_closed, globs_updated}
use Rattle.def_globs.specs.Globs.{BeginsUpdate, Updates}
use Rattle.def_globs.specs.Pending.{changed_at, changed_by, carried_by, AllAt, ClosedBut, CoherentBut, PutsFirst}
use Rattle.def_globs.proofs.ListLaws.{none_in}
use Rattle.def_globs.proofs.PuttingLaws.{edges_puts}
use Rattle.def_globs.specs.Raised.{IsRaisedAt, KeepsDef, KeepsDefs, KeepsRaised, RaisedBut, RaisesPending, RaisesTo}
use Rattle.def_globs.proofs.RaisedEdgeLemmas.{raised_recorded}
use Rattle.def_globs.proofs.WavingLemmas.{past_end}
use Rattle.def_globs.proofs.RaisingLemmas.{held_or}
use Rattle.def_globs.proofs.RaisedPutsLemmas.{raised_puts}
use Rattle.def_globs.proofs.PlacedLemmas.{closed_puts, coherent_puts}

changed_in : (changed : Bool) (x y : Slot) → Contains (cond changed (x ∷ []) []) y → Contains (x ∷ []) y
changed_in true x y h = h
changed_in false x y h = absurd (none_in y h)

changed_within : {V : Type 0} (o : Order V) (m : ModuleId) (x : Option Slot) (offer : Binding V) (c : Content V) (y : Slot) → Contains (changed_at o m x offer c) y → Contains (option_to_list x) y
changed_within o m None offer c y h = h
changed_within o m (Some x) offer c y h = changed_in _ x y h

pub within_list : {V : Type 0} (o : Order V) (m : ModuleId) (list : List (Entry V)) (c : Content V) (y : Slot) → Contains (changed_by o m list c) y → Contains (slots_of list) y
within_list o m [] c y h = h
within_list o m (e ∷ es) c y h =
    elim (Contains-append_cases (changed_at o m (slot_of e) (offered e) c) (changed_by o m es (put_entry o m e c)) y h) [
      | inl now ↦ Contains-append_left (option_to_list (slot_of e)) (slots_of es) y (changed_within o m (slot_of e) (offered e) c y now)
      | inr later ↦ Contains-append_right (option_to_list (slot_of e)) (slots_of es) y (within_list o m es (put_entry o m e c) y later)
    ]

pub copies_mono : {V : Type 0} (o : Order V) (xs ys : List Slot) (def_of : Slot → Def) {c d : Content V} → ((y : Slot) → Contains xs y → Contains ys y) → Copies o xs def_of c d → Copies o ys def_of c d
copies_mono o xs ys def_of f none = none
copies_mono o xs ys def_of f (more s e x k before at within def) = more s e x k (copies_mono o xs ys def_of f before) at (f x within) def

-- where the first entries were put, an update has begun
pub update_begun : {V : Type 0} (o : Order V) (m : ModuleId) (list : List (Entry V)) (c d : Content V) → PutsFirst o m list c d → BeginsUpdate o m list c d
update_begun o m list c d (n, is) =
    let placed : Content _ = puts o m (take n list) c in
    (n, subst (λ e. Copies o (slots_of (take n list)) (def_at placed m) placed e) (sym is) none)

-- and where all were, whatever is copied
pub update_whole : {V : Type 0} (o : Order V) (m : ModuleId) (list : List (Entry V)) (c d : Content V) → Updates o m list c d → BeginsUpdate o m list c d
update_whole o m list c d updates = (length list, subst (λ l. Updates o m l c d) (sym (take_all (length list) list (omega arith))) updates)

carried_in : {V : Type 0} (first : Option (EdgeTo V)) (xs : List Slot) (y : Slot) → Contains (cond (is_some first) xs []) y → Contains xs y
carried_in None xs y h = absurd (none_in y h)
carried_in (Some e) xs y h = h

carried_all : {V : Type 0} (first : Option (EdgeTo V)) (xs : List Slot) (y : Slot) → (first ≡ None → ⊥) → Contains xs y → Contains (cond (is_some first) xs []) y
carried_all None xs y some h = absurd (some refl)
carried_all (Some e) xs y some h = h

-- what is pending along an edge travels
travels : {V : Type 0} (o : Order V) (m : ModuleId) (list : List (Entry V)) (c : Content V) (s : ModuleId) (k : ℕ) (y : Slot) (e : EdgeTo V)
    → slice_get ((puts o m list c).edges s) k ≡ Some e → AllAt m (changed_by o m list c) s k y → AllAt m (carried_by o m list c) s k y
travels o m list c s k y e at p =
    let here : slice_get (c.edges m) k ≡ Some e =
    ap (λ n. slice_get (c.edges n) k) (sym p.0) ∙ ap (λ (f : ModuleId → List (EdgeTo _)). slice_get (f s) k) (sym (edges_puts o m list c)) ∙ at in
    (p.0, carried_all (slice_get (c.edges m) 0) (changed_by o m list c) y (λ none. past_end (c.edges m) 0 k e none (omega arith) here) p.1)

-- what a list in a closed module leaves closed
pub closed_after : {V : Type 0} (o : Order V) (left_out : ModuleId → Bool) (m : ModuleId) (list : List (Entry V)) (c : Content V)
    → IsClosed o left_out c → ClosedBut o left_out (AllAt m (carried_by o m list c)) (puts o m list c)
closed_after o left_out m list c closed s k e x b at left h seen =
    let after : ClosedBut o left_out (AllAt m (changed_by o m list c)) (puts o m list c) =
    closed_puts o left_out (AllAt m (changed_by o m list c)) m list c (λ y h j. (refl, h)) (λ s k e x b at left h seen. inl (closed s k e x b at left h seen)) in
    elim (after s k e x b at left h seen) [ inl bound ↦ inl bound | inr p ↦ inr (travels o m list c s k x e at p) ]

pub coherent_after : {V : Type 0} (o : Order V) (left_out : ModuleId → Bool) (target_of : GlobId → Option ModuleId) (m : ModuleId) (list : List (Entry V)) (c : Content V)
    → EntriesFollow left_out target_of m list c → LedOrHome left_out target_of m c → IsCoherent o left_out target_of c
    → CoherentBut o left_out target_of (AllAt m (carried_by o m list c)) (puts o m list c) × LedOrHome left_out target_of m (puts o m list c)
coherent_after o left_out target_of m list c follow led coherent =
    let after : CoherentBut o left_out target_of (AllAt m (changed_by o m list c)) (puts o m list c) × LedOrHome left_out target_of m (puts o m list c) =
    coherent_puts o left_out (AllAt m (changed_by o m list c)) m target_of list c (λ y h j. (refl, h))
    (λ e name g t q n by known lm lt. inr (follow e name g t q n by known lm lt)) led
    (λ i name ns b g t here by known li lt. inl (coherent i name ns b g t here by known li lt)) in (
      λ i name ns b g t here by known li lt.
          elim (after.0 i name ns b g t here by known li lt) [
            | inl follows ↦ inl follows
            | inr p ↦ inr (p.0, (p.1.0, (p.1.1.0, p.1.1.1, p.1.1.2, p.1.1.3, travels o m list c t p.1.0 (Named name ns) p.1.1.0 p.1.1.1 p.1.1.4)))
          ],
      after.1,
    )

-- what a list leaves raised where a place was raised
pub raised_after : {V : Type 0} (o : Order V) → IsPartialOrder o.at_most → (left_out : ModuleId → Bool) (m : ModuleId) (list : List (Entry V)) (c : Content V) → IsClosed o left_out c
    → (i : ModuleId) (y : Slot) → left_out i ≡ false → (i ≡ m → KeepsDefs o m list c y) → IsRaisedAt o c i y → RaisedBut o c (AllAt m (carried_by o m list c)) i y (puts o m list c)
raised_after o laws left_out m list c closed i y left stays risen keeps s k e b there g at to own seen here by same =
    let after : RaisedBut o c (AllAt m (changed_by o m list c)) i y (puts o m list c) =
    raised_puts o laws left_out c i y left (AllAt m (changed_by o m list c)) m list c (λ z h j. (refl, h)) (λ is. stays (sym is))
    (λ s k e x b at left h seen. inl (closed s k e x b at left h seen))
    (λ _ s k e b there g at to own seen here by same.
    inl (risen s k e at to b there g own (ap (λ n. o.can_see n b.vis) to ∙ seen) (ap (λ n. held c n y) to ∙ here) by same)) in
    elim (after keeps s k e b there g at to own seen here by same) [ inl flat ↦ inl flat | inr p ↦ inr (travels o m list c s k y e at p) ]

-- a list leaves the places of other modules
held_apart : {V : Type 0} (o : Order V) (m : ModuleId) (list : List (Entry V)) (c : Content V) (i : ModuleId) (y : Slot) → is_same_module m i ≡ false → held (puts o m list c) i y ≡ held c i y
held_apart o m [] c i y apart = refl
held_apart o m (e ∷ es) c i y apart =
    held_apart o m es (put_entry o m e c) i y apart ∙ held_elsewhere-put_entry o m e c i y (λ x q. ap (λ b. b && is_same_slot x y) apart)

-- after the puts a place of another module is as it was, and the wave leaves this module's definitions
module _ {V : Type 0} (o : Order V) (m : ModuleId) (list : List (Entry V)) (c c2 : Content V) (xs : List Slot)
    (copies : Copies o xs (def_at (puts o m list c) m) (puts o m list c) c2) (i : ModuleId) (y : Slot) (keeps : KeepsDef c c2 i y) where
  home_same : m ≡ i → (b b2 : Binding V) → held (puts o m list c) i y ≡ Some b → held c2 i y ≡ Some b2 → b.def ≡ b2.def
  home_same is b b2 h h2 =
      elim (held_or o xs (def_at (puts o m list c) m) copies i y b2 h2) [
        | inl was ↦ let twice : Some b ≡ Some b2 = sym h ∙ was in let same : b ≡ b2 = cc in ap (λ (z : Binding _). z.def) same
        | inr def ↦ sym (def ∙ ap def_or (ap (λ n. held (puts o m list c) n y) is ∙ h))
      ]

  apart_same : is_same_module m i ≡ false → held (puts o m list c) i y ≡ held c i y
  apart_same apart = held_apart o m list c i y apart

  pub keeps_puts : KeepsDef c (puts o m list c) i y
  keeps_puts a b ha hb =
      elim (cases_Bool (is_same_module m i)) [
        | inl same ↦
            let b2 = bound_copies o xs (def_at (puts o m list c) m) copies i y (b, hb) in
            keeps a b2.0 ha b2.1 ∙ sym (home_same (same_module_equal m i same) b b2.0 hb b2.1)
        | inr apart ↦ let twice : Some a ≡ Some b = sym ha ∙ (sym (apart_same apart) ∙ hb) in let same : a ≡ b = cc in ap (λ (z : Binding _). z.def) same
      ]

  pub keeps_wave : KeepsDef (puts o m list c) c2 i y
  keeps_wave b b2 hb hb2 =
      elim (cases_Bool (is_same_module m i)) [
        | inl same ↦ home_same (same_module_equal m i same) b b2 hb hb2
        | inr apart ↦ keeps b b2 (sym (apart_same apart) ∙ hb) hb2
      ]

pub raised_updated : {V : Type 0} (o : Order V) → IsPartialOrder o.at_most → (m : ModuleId) (list : List (Entry V)) (c c2 : Content V)
    → Copies o (carried_by o m list c) (def_at (puts o m list c) m) (puts o m list c) c2 → RaisesPending o m (carried_by o m list c) (puts o m list c) c2
    → KeepsRaised o m list c c2
raised_updated o laws m list c c2 copies spread left_out closed i y left keeps stays risen =
    spread left_out (closed_after o left_out m list c closed) i y left (keeps_wave o m list c c2 (carried_by o m list c) copies i y keeps)
    (λ _. raised_after o laws left_out m list c closed i y left stays risen (keeps_puts o m list c c2 (carried_by o m list c) copies i y keeps))

pub begins_after_puts : {V : Type 0} (o : Order V) (target_of : GlobId → Option ModuleId) (m : ModuleId) (list : List (Entry V)) (c : Content V) → BeginsAt target_of c → BeginsAt target_of (puts o m list c)
begins_after_puts o target_of m list c begins s k e t at known =
    begins s k e t (ap (λ (f : ModuleId → List (EdgeTo _)). slice_get (f s) k) (sym (edges_puts o m list c)) ∙ at) known

-- the contract of an update, by what its two parts ensure
module _ {V : Type 0} (o : Order V) (m : ModuleId) (list : List (Entry V)) (c c1 c2 : Content V) (xs : List Slot)
    (parts : (xs ≡ carried_by o m list c) × (c1 ≡ puts o m list c)) where
  pub update_copies : Copies o xs (def_at c1 m) c1 c2 → Copies o (slots_of list) (def_at (puts o m list c) m) (puts o m list c) c2
  update_copies copies =
      let now = subst (λ d. Copies o xs (def_at d m) d c2) parts.1 copies in
      copies_mono o xs (slots_of list) (def_at (puts o m list c) m)
      (λ y h. within_list o m list c y (carried_in (slice_get (c.edges m) 0) (changed_by o m list c) y (subst (λ ys. Contains ys y) parts.0 h))) now

  pub update_closed : ((left_out : ModuleId → Bool) → ClosedBut o left_out (AllAt m xs) c1 → IsClosed o left_out c2)
      → (left_out : ModuleId → Bool) → IsClosed o left_out c → IsClosed o left_out c2
  update_closed spread left_out closed =
      spread left_out (subst (λ ys. ClosedBut o left_out (AllAt m ys) c1) (sym parts.0) (subst (λ d. ClosedBut o left_out (AllAt m (carried_by o m list c)) d) (sym parts.1)
      (closed_after o left_out m list c closed)))

  pub update_coherent : ((left_out : ModuleId → Bool) (target_of : GlobId → Option ModuleId) → BeginsAt target_of c1 → LedOrHome left_out target_of m c1
      → CoherentBut o left_out target_of (AllAt m xs) c1 → IsCoherent o left_out target_of c2 × LedOrHome left_out target_of m c2)
      → (left_out : ModuleId → Bool) (target_of : GlobId → Option ModuleId) → BeginsAt target_of c → LedOrHome left_out target_of m c
      → EntriesFollow left_out target_of m list c → IsCoherent o left_out target_of c → IsCoherent o left_out target_of c2 × LedOrHome left_out target_of m c2
  update_coherent spread left_out target_of begins led follow coherent =
      let after = coherent_after o left_out target_of m list c follow led coherent in
      spread left_out target_of
      (subst (λ d. BeginsAt target_of d) (sym parts.1) (begins_after_puts o target_of m list c begins))
      (subst (λ d. LedOrHome left_out target_of m d) (sym parts.1) after.1)
      (subst (λ ys. CoherentBut o left_out target_of (AllAt m ys) c1) (sym parts.0) (subst (λ d. CoherentBut o left_out target_of (AllAt m (carried_by o m list c)) d) (sym parts.1) after.0))

  pub update_edges : Copies o xs (def_at c1 m) c1 c2 → c2.edges ≡ c.edges
  update_edges copies = edges_updated o m list (slots_of list) (def_at (puts o m list c) m) c c2 (update_copies copies)

  pub update_recorded : Copies o xs (def_at c1 m) c1 c2 → (target : ModuleId) → ListsAll o list c target m → IsClosedTo o c2 target m
  update_recorded copies target all = recorded_closed o target m list (def_at (puts o m list c) m) c c2 all (update_copies copies)

  pub update_globs : Copies o xs (def_at c1 m) c1 c2 → KeepsGlobs m list c c2
  update_globs copies = globs_updated o m list (slots_of list) (def_at (puts o m list c) m) c c2 (update_copies copies)

  pub update_raised : IsPartialOrder o.at_most → Copies o xs (def_at c1 m) c1 c2 → RaisesPending o m xs c1 c2 → KeepsRaised o m list c c2
  update_raised laws copies spread =
      raised_updated o laws m list c c2
      (subst (λ ys. Copies o ys (def_at (puts o m list c) m) (puts o m list c) c2) parts.0 (subst (λ d. Copies o xs (def_at d m) d c2) parts.1 copies))
      (subst (λ ys. RaisesPending o m ys (puts o m list c) c2) parts.0 (subst (λ d. RaisesPending o m xs d c2) parts.1 spread))

  pub update_raises : IsPartialOrder o.at_most → Copies o xs (def_at c1 m) c1 c2 → RaisesTo o m list c c2
  update_raises laws copies target edge y to all one keeps =
      let now : Copies o xs (def_at (puts o m list c) m) (puts o m list c) c2 = subst (λ d. Copies o xs (def_at d m) d c2) parts.1 copies in
      raised_recorded o laws m list c c2 xs now target edge y to all one (keeps_puts o m list c c2 xs now m y keeps)
