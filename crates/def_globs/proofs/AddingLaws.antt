-- What an edge that is added keeps.
use Rattle.std.proofs.Common.{◌≡◌, ℕ, Bool, false, Option, Some, None, [], ◌∷◌, length, ◌++◌, refl, sym, ap, ◌∙◌, subst, inl, inr, ◌⊎◌}
use Rattle.std.specs.Prelude.{slice_get}
use Rattle.std.proofs.lemmas.Bool.{cases_Bool}
use Rattle.def_ids.specs.declared.ids.ModuleId.{ModuleId}
use Rattle.def_ids.specs.declared.ids.GlobId.{GlobId}
use Rattle.def_bindings.specs.declared.bindings.EdgeTo.{EdgeTo}
use Rattle.def_bindings.specs.declared.bindings.Slot.{Slot}
use Rattle.def_bindings.specs.declared.bindings.Slot.TheVariants.{Named, Unnamed}
use Rattle.def_bindings.specs.declared.bindings.Binding.{Binding}
use Rattle.def_bindings.specs.Order.{Order, rises_to}
use Rattle.def_bindings.specs.Content.{Content, with_edge, replaced}
use Rattle.def_ids.specs.Ids.{is_same_module}
use Rattle.def_bindings.specs.Puts.{held, carried, edge_to, joined}
use Rattle.def_bindings.specs.Closure.{IsClosed, IsCoherent}
use Rattle.def_globs.specs.Raised.{IsRaisedAt, KeepsRaisedWith}
use Rattle.def_globs.specs.Waves.{BeginsAt, IsClosedTo, Leads, AreSingle, AddsEdge}
use Rattle.def_bindings.specs.IdLaws.{same_module_equal, same_module_itself}
use Rattle.def_globs.proofs.LedLaws.{found_importer}
use Rattle.def_globs.proofs.EdgesLaws.{in_replaced, replaced_at, last_at, no_edge, missing_edge, single_replaced}

-- an edge after the change is an old one, or the new one at its source
pub in_with_edge : {V : Type 0} (c : Content V) (s : ModuleId) (edge : EdgeTo V) (m : ModuleId) (k : ℕ) (e : EdgeTo V) → slice_get ((with_edge c s edge).edges m) k ≡ Some e
    → (slice_get (c.edges m) k ≡ Some e) ⊎ ((s ≡ m) × (e ≡ edge))
in_with_edge c s edge m k e h =
    elim (cases_Bool (is_same_module s m)) [
      | inl same ↦
          let at : s ≡ m = same_module_equal s m same in
          let g : slice_get (replaced (c.edges s) edge) k ≡ Some e = rw same at h in
          elim (in_replaced (c.edges s) edge e k g) [
            | inl old ↦ inl (ap (λ z. slice_get (c.edges z) k) (sym at) ∙ old)
            | inr new ↦ inr (at, new)
          ]
      | inr other ↦ let g : slice_get (c.edges m) k ≡ Some e = rw other at h in inl g
    ]

-- the joined edge leads to the importer, by a glob that is there or by the new one
joined_importer : {V : Type 0} (o : Order V) (c : Content V) (s : ModuleId) (edge : EdgeTo V) (there : Option (EdgeTo V)) → edge_to (c.edges s) edge.importer ≡ there → (joined o there edge).importer ≡ edge.importer
joined_importer o c s edge None h = refl
joined_importer o c s edge (Some e) h = (found_importer (c.edges s) edge.importer e h).0

joined_glob : {V : Type 0} (o : Order V) (c : Content V) (s : ModuleId) (edge : EdgeTo V) (there : Option (EdgeTo V)) → edge_to (c.edges s) edge.importer ≡ there
    → ((joined o there edge).glob ≡ edge.glob) ⊎ ((k : ℕ) × ((e : EdgeTo V) × (slice_get (c.edges s) k ≡ Some e) × ((joined o there edge).glob ≡ e.glob)))
joined_glob o c s edge None h = inl refl
joined_glob o c s edge (Some e) h = let r = found_importer (c.edges s) edge.importer e h in inr (r.1.0, (e, r.1.1, refl))

-- bindings stay where an edge is added
held_with_edge : {V : Type 0} (c : Content V) (s : ModuleId) (edge : EdgeTo V) (m : ModuleId) (x : Slot) → held (with_edge c s edge) m x ≡ held c m x
held_with_edge c s edge m (Named n k) = refl
held_with_edge c s edge m (Unnamed t) = refl

module _ {V : Type 0} (o : Order V) (c c' : Content V) (s : ModuleId) (edge : EdgeTo V) (is : c' ≡ with_edge c s (joined o (edge_to (c.edges s) edge.importer) edge)) where
  pub adding_closed : (left_out : ModuleId → Bool) → (left_out edge.importer ≡ false → IsClosedTo o c s edge.importer) → IsClosed o left_out c → IsClosed o left_out c'
  adding_closed left_out new closed =
      let to = joined_importer o c s edge (edge_to (c.edges s) edge.importer) refl in
      subst (λ d. IsClosed o left_out d) (sym is) (λ m k e x b at left h seen.
      let h' : held c m x ≡ Some b = sym (held_with_edge c s (joined o (edge_to (c.edges s) edge.importer) edge) m x) ∙ h in
      elim (in_with_edge c s (joined o (edge_to (c.edges s) edge.importer) edge) m k e at) [
        | inl old ↦ let bound = closed m k e x b old left h' seen in (bound.0, held_with_edge c s (joined o (edge_to (c.edges s) edge.importer) edge) e.importer x ∙ bound.1)
        | inr fresh ↦
            let leads : e.importer ≡ edge.importer = ap (λ (n : EdgeTo _). n.importer) fresh.1 ∙ to in
            let bound = new (ap left_out (sym leads) ∙ left) x b (ap (λ n. held c n x) fresh.0 ∙ h') (ap (λ n. o.can_see n b.vis) (sym leads) ∙ seen) in
            (bound.0, held_with_edge c s (joined o (edge_to (c.edges s) edge.importer) edge) e.importer x ∙ (ap (λ n. held c n x) leads ∙ bound.1))
      ])

  pub adding_begins : (target_of : GlobId → Option ModuleId) → ((target : ModuleId) → target_of edge.glob ≡ Some target → s ≡ target) → BeginsAt target_of c → BeginsAt target_of c'
  adding_begins target_of new begins =
      subst (λ d. BeginsAt target_of d) (sym is) (λ m k e t at known.
      elim (in_with_edge c s (joined o (edge_to (c.edges s) edge.importer) edge) m k e at) [
        | inl old ↦ begins m k e t old known
        | inr fresh ↦
            elim (joined_glob o c s edge (edge_to (c.edges s) edge.importer) refl) [
              | inl its_own ↦ sym fresh.0 ∙ new t (ap target_of (sym (ap (λ (n : EdgeTo _). n.glob) fresh.1 ∙ its_own)) ∙ known)
              | inr there ↦ sym fresh.0 ∙ begins s there.0 there.1.0 t there.1.1 (ap target_of (sym (ap (λ (n : EdgeTo _). n.glob) fresh.1 ∙ there.1.2)) ∙ known)
            ]
      ])

  pub adding_coherent : (left_out : ModuleId → Bool) (target_of : GlobId → Option ModuleId) → IsCoherent o left_out target_of c → IsCoherent o left_out target_of c'
  adding_coherent left_out target_of coherent = subst (λ d. IsCoherent o left_out target_of d) (sym is) coherent

  -- the joined edge has the visibility of one that raises nothing
  by_joined : (t b : Binding V) → rises_to o t.vis (carried o edge b).vis ≡ false → (there : Option (EdgeTo V)) → ((f : EdgeTo V) → there ≡ Some f → rises_to o t.vis (carried o f b).vis ≡ false)
      → rises_to o t.vis (carried o (joined o there edge) b).vis ≡ false
  by_joined t b new None old = new
  by_joined t b new (Some f) old =
      elim (cases_Bool (rises_to o f.vis edge.vis)) [
        | inl up ↦ rw up new
        | inr down ↦ rw down (old f refl)
      ]

  pub adding_raised : KeepsRaisedWith o s edge c c'
  adding_raised i y new old =
      let to_edge = joined_importer o c s edge (edge_to (c.edges s) edge.importer) refl in
      subst (λ d. IsRaisedAt o d i y) (sym is) (λ m k e at to b there g own seen here by same.
      let own' : held c m y ≡ Some b = sym (held_with_edge c s (joined o (edge_to (c.edges s) edge.importer) edge) m y) ∙ own in
      let here' : held c e.importer y ≡ Some there = sym (held_with_edge c s (joined o (edge_to (c.edges s) edge.importer) edge) e.importer y) ∙ here in
      elim (in_with_edge c s (joined o (edge_to (c.edges s) edge.importer) edge) m k e at) [
        | inl was ↦ old m k e was to b there g own' seen here' by same
        | inr fresh ↦
            let leads : e.importer ≡ edge.importer = ap (λ (n : EdgeTo _). n.importer) fresh.1 ∙ to_edge in
            let own_s : held c s y ≡ Some b = ap (λ n. held c n y) fresh.0 ∙ own' in
            let flat = by_joined there b
            (new (sym leads ∙ to) b there g own_s (ap (λ n. o.can_see n b.vis) (sym leads) ∙ seen) (ap (λ n. held c n y) (sym leads) ∙ here') by same)
            (edge_to (c.edges s) edge.importer)
            (λ f at_f.
            let found = found_importer (c.edges s) edge.importer f at_f in
            let to_f : f.importer ≡ e.importer = found.0 ∙ sym leads in
            old s found.1.0 f found.1.1 (to_f ∙ to) b there g own_s (ap (λ n. o.can_see n b.vis) to_f ∙ seen) (ap (λ n. held c n y) to_f ∙ here') by same) in
            ap (λ (n : EdgeTo _). rises_to o there.vis (carried o n b).vis) fresh.1 ∙ flat
      ])

  abbrev new_edge : EdgeTo V
  new_edge = joined o (edge_to (c.edges s) edge.importer) edge

  abbrev new_importer : new_edge.importer ≡ edge.importer
  new_importer = joined_importer o c s edge (edge_to (c.edges s) edge.importer) refl

  -- the edges of another module, and of this one
  edges_apart : (m : ModuleId) → is_same_module s m ≡ false → c'.edges m ≡ c.edges m
  edges_apart m apart = ap (λ (d : Content _). d.edges m) is ∙ rw apart refl

  edges_here : c'.edges s ≡ replaced (c.edges s) new_edge
  edges_here = ap (λ (d : Content _). d.edges s) is ∙ rw (same_module_itself s) refl

  -- where only one edge leads to an importer, the new edge has the glob of the one in whose place it stands
  joined_there : AreSingle c → (e : EdgeTo V) (k : ℕ) → slice_get (c.edges s) k ≡ Some e → edge.importer ≡ e.importer
      → (there : Option (EdgeTo V)) → edge_to (c.edges s) edge.importer ≡ there → (joined o there edge).glob ≡ e.glob
  joined_there single e k at same None h = absurd (missing_edge (c.edges s) edge.importer e k at (sym same) h)
  joined_there single e k at same (Some f) h =
      let r = found_importer (c.edges s) edge.importer f h in
      let i : r.1.0 ≡ k = single s r.1.0 k f e r.1.1 at (r.0 ∙ same) in
      let one : Some f ≡ Some e = sym r.1.1 ∙ (ap (slice_get (c.edges s)) i ∙ at) in
      let is_e : f ≡ e = cc in
      ap (λ (z : EdgeTo _). z.glob) is_e

  leads_kept : AreSingle c → (m importer : ModuleId) (g : GlobId) → Leads c m importer g (λ _. Unit {0}) → Leads c' m importer g (λ _. Unit {0})
  leads_kept single m importer g lead =
      let e = lead.1.0 in
      elim (cases_Bool (is_same_module s m)) [
        | inr apart ↦ (lead.0, (e, ap (λ es. slice_get es lead.0) (edges_apart m apart) ∙ lead.1.1, lead.1.2, lead.1.3, tt))
        | inl same ↦
            let here : s ≡ m = same_module_equal s m same in
            let at : slice_get (c.edges s) lead.0 ≡ Some e = ap (λ z. slice_get (c.edges z) lead.0) here ∙ lead.1.1 in
            let now : c'.edges m ≡ replaced (c.edges s) new_edge = ap c'.edges (sym here) ∙ edges_here in
            elim (replaced_at (c.edges s) new_edge e lead.0 at) [
              | inl stays ↦ (lead.0, (e, ap (λ es. slice_get es lead.0) now ∙ stays, lead.1.2, lead.1.3, tt))
              | inr new ↦
                  let glob : new_edge.glob ≡ e.glob = joined_there single e lead.0 at (sym new_importer ∙ new.0) (edge_to (c.edges s) edge.importer) refl in
                  (lead.0, (new_edge, ap (λ es. slice_get es lead.0) now ∙ new.1, new.0 ∙ lead.1.2, glob ∙ lead.1.3, tt))
            ]
      ]

  adding_leads : edge_to (c.edges s) edge.importer ≡ None → Leads c' s edge.importer edge.glob (λ _. Unit {0})
  adding_leads h =
      let new : new_edge ≡ edge = ap (λ t. joined o t edge) h in
      let pushed : replaced (c.edges s) edge ≡ c.edges s ++ edge ∷ [] = rw (no_edge (c.edges s) edge.importer h) refl in
      let now : c'.edges s ≡ c.edges s ++ edge ∷ [] = edges_here ∙ (ap (replaced (c.edges s)) new ∙ pushed) in
      (length (c.edges s), (edge, ap (λ es. slice_get es (length (c.edges s))) now ∙ last_at (c.edges s) edge, refl, refl, tt))

  -- the place of an edge in the changed list is that of an old edge to the same importer, or the last
  adding_single : AreSingle c → AreSingle c'
  adding_single single m i j e f at at' same =
      elim (cases_Bool (is_same_module s m)) [
        | inr apart ↦
            let p = ap (λ es. slice_get es i) (sym (edges_apart m apart)) ∙ at in
            let q = ap (λ es. slice_get es j) (sym (edges_apart m apart)) ∙ at' in
            single m i j e f p q same
        | inl here ↦
            let is_m : s ≡ m = same_module_equal s m here in
            let now : c'.edges m ≡ replaced (c.edges s) new_edge = ap c'.edges (sym is_m) ∙ edges_here in
            single_replaced (c.edges s) new_edge (single s) i j e f (ap (λ es. slice_get es i) (sym now) ∙ at) (ap (λ es. slice_get es j) (sym now) ∙ at') same
      ]

  pub adding_edge : AddsEdge s edge.importer edge.glob c c'
  adding_edge = record { single = adding_single; kept = leads_kept; leads = adding_leads }

-- the content after the code's three steps
pub added : {V : Type 0} (o : Order V) (c c' : Content V) (s : ModuleId) (edge : EdgeTo V) (there : Option (EdgeTo V)) (j : EdgeTo V)
    → there ≡ edge_to (c.edges s) edge.importer → j ≡ joined o there edge → c' ≡ with_edge c s j
    → c' ≡ with_edge c s (joined o (edge_to (c.edges s) edge.importer) edge)
added o c c' s edge there j h i k = k ∙ ap (with_edge c s) (i ∙ ap (λ t. joined o t edge) h)
