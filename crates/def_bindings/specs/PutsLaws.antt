-- What puts and copies keep and what they leave: a declaration stays, what is bound stays bound, and other places stay.
use Rattle.std.specs.Prelude.{◌≡◌, Bool, true, false, cond, Option, Some, None, List, [], ◌∷◌, refl, ◌⊎◌}
use Rattle.std.proofs.Common.{ap, sym, ◌∙◌, subst, inl, inr}
use Rattle.tree_ids.specs.declared.name.Name.{Name}
use Rattle.def_ids.specs.declared.ids.ModuleId.{ModuleId}
use Rattle.def_ids.specs.declared.ids.GlobId.{GlobId}
use Rattle.def_ids.specs.declared.ids.Def.{Def}
use Rattle.def_ids.specs.declared.ids.Def.TheVariants.{Trait}
use Rattle.def_bindings.specs.declared.bindings.Namespace.{Namespace}
use Rattle.def_bindings.specs.declared.bindings.Namespace.TheVariants.{Types}
use Rattle.def_bindings.specs.declared.bindings.Binding.{Binding}
use Rattle.def_bindings.specs.declared.bindings.EdgeTo.{EdgeTo}
use Rattle.def_bindings.specs.declared.bindings.Entry.{Entry}
use Rattle.def_bindings.specs.declared.bindings.Slot.{Slot}
use Rattle.def_bindings.specs.declared.bindings.Slot.TheVariants.{Named, Unnamed}
use Rattle.def_bindings.specs.Order.{Order}
use Rattle.def_bindings.specs.Content.{Content}
use Rattle.def_bindings.specs.Closure.{IsBound}
use Rattle.def_bindings.specs.Slots.{is_same_place}
use Rattle.def_bindings.specs.HeldLaws.{held-written_here, held-written_elsewhere, edges-written}
use Rattle.def_bindings.specs.Puts.{IsExplicit, glob_of, held, fitted, settled, written, put, unnamed_slot, slot_for, slot_of, offered, put_at, put_entry, puts, carried, answer, copied}
use Rattle.def_bindings.specs.SettledLaws.{settled-yields, bound-written, bound-written_here, explicit_stays-settled, explicit_from-settled}

module _ {V : Type 0} (o : Order V) (at : ModuleId) where
  stays_put_at : (slot : Option Slot) (offer : Binding V) (c : Content V) (m : ModuleId) (name : Name) (ns : Namespace) (b : Binding V) → c.binding m name ns ≡ Some b → IsExplicit b.import
      → (put_at o at slot offer c).binding m name ns ≡ Some b
  stays_put_at None offer c m name ns b there explicit = there
  stays_put_at (Some slot) offer c m name ns b there explicit = explicit_stays-settled o c at slot (fitted slot offer) m name ns b there explicit

  bound_put_at : (slot : Option Slot) (offer : Binding V) (c : Content V) (m : ModuleId) (y : Slot) → IsBound c m y → IsBound (put_at o at slot offer c) m y
  bound_put_at None offer c m y bound = bound
  bound_put_at (Some slot) offer c m y bound = bound-written c at slot (settled o (held c at slot) (fitted slot offer)) m y bound

  held_put_at : (slot : Option Slot) (offer : Binding V) (c : Content V) (m : ModuleId) (y : Slot) → ((x : Slot) → slot ≡ Some x → is_same_place at x m y ≡ false)
      → held (put_at o at slot offer c) m y ≡ held c m y
  held_put_at None offer c m y apart = refl
  held_put_at (Some slot) offer c m y apart = held-written_elsewhere c at slot (settled o (held c at slot) (fitted slot offer)) m y (apart slot refl)

  edges_put_at : (slot : Option Slot) (offer : Binding V) (c : Content V) → (put_at o at slot offer c).edges ≡ c.edges
  edges_put_at None offer c = refl
  edges_put_at (Some slot) offer c = edges-written c at slot (settled o (held c at slot) (fitted slot offer))

  -- an explicit binding stays where an entry is put
  pub explicit_stays-put_entry : (e : Entry V) (c : Content V) (m : ModuleId) (name : Name) (ns : Namespace) (b : Binding V) → c.binding m name ns ≡ Some b → IsExplicit b.import
      → (put_entry o at e c).binding m name ns ≡ Some b
  explicit_stays-put_entry e c m name ns b there explicit = stays_put_at (slot_of e) (offered e) c m name ns b there explicit

  -- and where a list is put
  pub explicit_stays-puts : (es : List (Entry V)) (c : Content V) (m : ModuleId) (name : Name) (ns : Namespace) (b : Binding V) → c.binding m name ns ≡ Some b → IsExplicit b.import
      → (puts o at es c).binding m name ns ≡ Some b
  explicit_stays-puts [] c m name ns b there explicit = there
  explicit_stays-puts (e ∷ es) c m name ns b there explicit = explicit_stays-puts es (put_entry o at e c) m name ns b (explicit_stays-put_entry e c m name ns b there explicit) explicit

  -- what is bound stays bound where an entry is put
  pub bound_stays-put_entry : (e : Entry V) (c : Content V) (m : ModuleId) (slot : Slot) → IsBound c m slot → IsBound (put_entry o at e c) m slot
  bound_stays-put_entry e c m slot bound = bound_put_at (slot_of e) (offered e) c m slot bound

  pub bound_stays-puts : (es : List (Entry V)) (c : Content V) (m : ModuleId) (slot : Slot) → IsBound c m slot → IsBound (puts o at es c) m slot
  bound_stays-puts [] c m slot bound = bound
  bound_stays-puts (e ∷ es) c m slot bound = bound_stays-puts es (put_entry o at e c) m slot (bound_stays-put_entry e c m slot bound)

  -- other places stay where an entry is put
  pub held_elsewhere-put_entry : (e : Entry V) (c : Content V) (m : ModuleId) (slot : Slot) → ((x : Slot) → slot_of e ≡ Some x → is_same_place at x m slot ≡ false)
      → held (put_entry o at e c) m slot ≡ held c m slot
  held_elsewhere-put_entry e c m slot apart = held_put_at (slot_of e) (offered e) c m slot apart

  -- a put leaves the edges
  pub edges_stay-put_entry : (e : Entry V) (c : Content V) → (put_entry o at e c).edges ≡ c.edges
  edges_stay-put_entry e c = edges_put_at (slot_of e) (offered e) c

  pub edges_stay-puts : (es : List (Entry V)) (c : Content V) → (puts o at es c).edges ≡ c.edges
  edges_stay-puts [] c = refl
  edges_stay-puts (e ∷ es) c = edges_stay-puts es (put_entry o at e c) ∙ edges_stay-put_entry e c

  bound_by : (slot : Slot) (offer : Binding V) (c : Content V) (h : Option (Binding V)) → held c at slot ≡ h → IsBound (written c at slot (settled o h offer)) at slot
  bound_by slot offer c None is = bound-written_here c at slot offer
  bound_by slot offer c (Some there) is = bound-written c at slot (settled o (Some there) offer) at slot (there, is)

  bound_at : (slot : Option Slot) (x : Slot) (offer : Binding V) (c : Content V) → slot ≡ Some x → IsBound (put_at o at slot offer c) at x
  bound_at None x offer c is = cc
  bound_at (Some slot) x offer c is =
      let same : slot ≡ x = cc in
      subst (λ y. IsBound (put o c at slot offer) at y) same (bound_by slot (fitted slot offer) c (held c at slot) refl)

  -- the slot of an entry is bound once it is put
  pub bound_after-put_entry : (e : Entry V) (slot : Slot) (c : Content V) → slot_of e ≡ Some slot → IsBound (put_entry o at e c) at slot
  bound_after-put_entry e slot c is = bound_at (slot_of e) slot (offered e) c is

  -- the name of an entry is bound once it is put
  pub bound_after-put_name : (e : Entry V) (name : Name) (c : Content V) → e.name ≡ Some name → IsBound (put_entry o at e c) at (Named name e.ns)
  bound_after-put_name e name c is = bound_after-put_entry e (Named name e.ns) c (ap (λ n. slot_for n e.ns e.def) is)

  replaces : (name : Name) (ns : Namespace) (offer : Binding V) (c : Content V) (h : Option (Binding V)) → IsExplicit offer.import → ((b : Binding V) → h ≡ Some b → IsExplicit b.import → ⊥)
      → settled o h offer ≡ Some offer
  replaces name ns offer c None explicit free = refl
  replaces name ns offer c (Some there) explicit free = by_origin (glob_of there.import) refl
    where
      by_origin : (g : Option GlobId) → glob_of there.import ≡ g → settled o (Some there) offer ≡ Some offer
      by_origin None is = absurd (free there refl is)
      by_origin (Some g) is = settled-yields o there offer g is explicit

  -- an explicit entry is bound as it stands, where no explicit binding was
  pub explicit_after-put_entry : (e : Entry V) (name : Name) (c : Content V) → e.name ≡ Some name → IsExplicit e.origin
      → ((b : Binding V) → c.binding at name e.ns ≡ Some b → IsExplicit b.import → ⊥) → (put_entry o at e c).binding at name e.ns ≡ Some (offered e)
  explicit_after-put_entry e name c is explicit free =
      let slot_is : slot_of e ≡ Some (Named name e.ns) = ap (λ n. slot_for n e.ns e.def) is in
      let settles : settled o (c.binding at name e.ns) (offered e) ≡ Some (offered e) = replaces name e.ns (offered e) c (c.binding at name e.ns) explicit free in
      ap (λ s. (put_at o at s (offered e) c).binding at name e.ns) slot_is
      ∙ ap (λ w. (written c at (Named name e.ns) w).binding at name e.ns) settles
      ∙ held-written_here c at (Named name e.ns) (offered e)

  from_unnamed : (k : Namespace) (d : Def) (name : Name) (ns : Namespace) → unnamed_slot k d ≡ Some (Named name ns) → ⊥
  from_unnamed Types (Trait t) name ns e = let wrong : Unnamed t ≡ Named name ns = cc in cc
  from_unnamed _ _ name ns e = cc

  named_from : (n : Option Name) (k : Namespace) (d : Def) (name : Name) (ns : Namespace) → slot_for n k d ≡ Some (Named name ns) → (n ≡ Some name) × (ns ≡ k)
  named_from None k d name ns e = absurd (from_unnamed k d name ns e)
  named_from (Some x) k d name ns e = let f : Named x k ≡ Named name ns = cc in let p : x ≡ name = cc in let q : ns ≡ k = cc in (ap Some p, q)

  from_put_at : (slot : Option Slot) (offer : Binding V) (c : Content V) (m : ModuleId) (name : Name) (ns : Namespace) (b : Binding V)
      → (put_at o at slot offer c).binding m name ns ≡ Some b → IsExplicit b.import
      → (c.binding m name ns ≡ Some b) ⊎ ((m ≡ at) × (slot ≡ Some (Named name ns)) × (b ≡ offer))
  from_put_at None offer c m name ns b now explicit = inl now
  from_put_at (Some slot) offer c m name ns b now explicit =
      elim (explicit_from-settled o c at slot (fitted slot offer) m name ns b now explicit) [
        | inl before ↦ inl before
        | inr new ↦ inr (new.0, ap Some new.1, new.2 ∙ ap (λ s. fitted s offer) new.1)
      ]

  -- an explicit binding that is there once an entry is put was there before, or is the entry's
  pub explicit_from-put_entry : (e : Entry V) (c : Content V) (m : ModuleId) (name : Name) (ns : Namespace) (b : Binding V)
      → (put_entry o at e c).binding m name ns ≡ Some b → IsExplicit b.import
      → (c.binding m name ns ≡ Some b) ⊎ ((m ≡ at) × (e.name ≡ Some name) × (ns ≡ e.ns) × (b ≡ offered e))
  explicit_from-put_entry e c m name ns b now explicit =
      elim (from_put_at (slot_of e) (offered e) c m name ns b now explicit) [
        | inl before ↦ inl before
        | inr new ↦ let n = named_from e.name e.ns e.def name ns new.1 in inr (new.0, n.0, n.1, new.2)
      ]

module _ {V : Type 0} (o : Order V) (source : ModuleId) (edge : EdgeTo V) (slot : Slot) (c : Content V) where
  carried_glob : (x : Slot) (own a : Binding V) → (fitted x (carried o edge own)) ≡ a → IsExplicit a.import → ⊥
  carried_glob (Named name ns) own a e explicit =
      let wrong : None ≡ Some edge.glob = sym explicit ∙ ap (λ (y : Binding V). glob_of y.import) (sym e) in cc
  carried_glob (Unnamed t) own a e explicit =
      let wrong : None ≡ Some _ = sym explicit ∙ ap (λ (y : Binding V). glob_of y.import) (sym e) in cc

  stays_seen : (own : Binding V) (seen : Bool) (m : ModuleId) (name : Name) (ns : Namespace) (b : Binding V) → c.binding m name ns ≡ Some b → IsExplicit b.import
      → (written c edge.importer slot (cond seen (settled o (held c edge.importer slot) (fitted slot (carried o edge own))) None)).binding m name ns ≡ Some b
  stays_seen own true m name ns b there explicit = explicit_stays-settled o c edge.importer slot (fitted slot (carried o edge own)) m name ns b there explicit
  stays_seen own false m name ns b there explicit = there

  stays_own : (own : Option (Binding V)) (m : ModuleId) (name : Name) (ns : Namespace) (b : Binding V) → c.binding m name ns ≡ Some b → IsExplicit b.import
      → (written c edge.importer slot (answer o edge slot own (held c edge.importer slot))).binding m name ns ≡ Some b
  stays_own None m name ns b there explicit = there
  stays_own (Some own) m name ns b there explicit = stays_seen own (o.can_see edge.importer own.vis) m name ns b there explicit

  -- an explicit binding stays under a copy
  pub explicit_stays-copied : (m : ModuleId) (name : Name) (ns : Namespace) (b : Binding V) → c.binding m name ns ≡ Some b → IsExplicit b.import → (copied o source edge slot c).binding m name ns ≡ Some b
  explicit_stays-copied m name ns b there explicit = stays_own (held c source slot) m name ns b there explicit

  -- what is bound stays bound under a copy
  pub bound_stays-copied : (m : ModuleId) (y : Slot) → IsBound c m y → IsBound (copied o source edge slot c) m y
  bound_stays-copied m y bound = bound-written c edge.importer slot (answer o edge slot (held c source slot) (held c edge.importer slot)) m y bound

  -- other places stay under a copy
  pub held_elsewhere-copied : (m : ModuleId) (y : Slot) → is_same_place edge.importer slot m y ≡ false → held (copied o source edge slot c) m y ≡ held c m y
  held_elsewhere-copied m y apart = held-written_elsewhere c edge.importer slot (answer o edge slot (held c source slot) (held c edge.importer slot)) m y apart

  -- a copy leaves the edges
  pub edges_stay-copied : (copied o source edge slot c).edges ≡ c.edges
  edges_stay-copied = edges-written c edge.importer slot (answer o edge slot (held c source slot) (held c edge.importer slot))

  from_seen : (own : Binding V) (seen : Bool) (m : ModuleId) (name : Name) (ns : Namespace) (b : Binding V)
      → (written c edge.importer slot (cond seen (settled o (held c edge.importer slot) (fitted slot (carried o edge own))) None)).binding m name ns ≡ Some b → IsExplicit b.import
      → c.binding m name ns ≡ Some b
  from_seen own true m name ns b now explicit =
      elim (explicit_from-settled o c edge.importer slot (fitted slot (carried o edge own)) m name ns b now explicit) [
        | inl before ↦ before
        | inr new ↦ absurd (carried_glob slot own b (sym new.2) explicit)
      ]
  from_seen own false m name ns b now explicit = now

  from_own : (own : Option (Binding V)) (m : ModuleId) (name : Name) (ns : Namespace) (b : Binding V)
      → (written c edge.importer slot (answer o edge slot own (held c edge.importer slot))).binding m name ns ≡ Some b → IsExplicit b.import → c.binding m name ns ≡ Some b
  from_own None m name ns b now explicit = now
  from_own (Some own) m name ns b now explicit = from_seen own (o.can_see edge.importer own.vis) m name ns b now explicit

  -- an explicit binding that is there after a copy was there before
  pub explicit_from-copied : (m : ModuleId) (name : Name) (ns : Namespace) (b : Binding V) → (copied o source edge slot c).binding m name ns ≡ Some b → IsExplicit b.import → c.binding m name ns ≡ Some b
  explicit_from-copied m name ns b now explicit = from_own (held c source slot) m name ns b now explicit
