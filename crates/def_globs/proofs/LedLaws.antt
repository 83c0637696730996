-- Where globs lead: kept by an update, and mended by the edge that is added after it.
use Rattle.std.specs.Prelude.{◌≡◌, ℕ, suc, Bool, true, false, Option, Some, None, List, [], ◌∷◌, ◌⊎◌, slice_get, Contains}
use Rattle.std.proofs.Common.{sym, ap, ◌∙◌, subst, inl, inr}
use Rattle.std.proofs.lemmas.Bool.{cases_Bool}
use Rattle.tree_ids.specs.declared.name.Name.{Name}
use Rattle.def_ids.specs.declared.ids.ModuleId.{ModuleId}
use Rattle.def_ids.specs.declared.ids.GlobId.{GlobId}
use Rattle.def_ids.specs.Ids.{is_same_module}
use Rattle.def_bindings.specs.declared.bindings.Namespace.{Namespace}
use Rattle.def_bindings.specs.declared.bindings.ImportOrExternCrate.TheVariants.{Glob}
use Rattle.def_bindings.specs.declared.bindings.Binding.{Binding}
use Rattle.def_bindings.specs.declared.bindings.EdgeTo.{EdgeTo}
use Rattle.def_bindings.specs.declared.bindings.Entry.{Entry}
use Rattle.def_bindings.specs.declared.bindings.Slot.TheVariants.{Named}
use Rattle.def_bindings.specs.Order.{Order}
use Rattle.def_bindings.specs.Content.{Content}
use Rattle.def_bindings.specs.IdLaws.{same_module_equal}
use Rattle.def_bindings.specs.Puts.{slot_of, edge_to}
use Rattle.def_bindings.specs.Closure.{IsClosed}
use Rattle.def_globs.specs.Waves.{BeginsAt, Leads, Led, LedOrHome, Brings, KeepsGlobs, AreSingle, AddsEdge}

-- the edge that is found leads to the importer, and stands in the list
pub found_importer : {V : Type 0} (es : List (EdgeTo V)) (importer : ModuleId) (e : EdgeTo V) → edge_to es importer ≡ Some e → (e.importer ≡ importer) × ((k : ℕ) × (slice_get es k ≡ Some e))
found_importer [] importer e h = cc
found_importer (f ∷ es) importer e h =
    elim (cases_Bool (is_same_module f.importer importer)) [
      | inl same ↦ let g : Some f ≡ Some e = rw same at h in let i : f ≡ e = cc in (ap (λ (n : EdgeTo _). n.importer) (sym i) ∙ same_module_equal f.importer importer same, (0, g))
      | inr other ↦ let g : edge_to es importer ≡ Some e = rw other at h in let r = found_importer es importer e g in (r.0, (suc r.1.0, r.1.1))
    ]

-- a binding by a glob, as before, leads as before
module _ {V : Type 0} (left_out : ModuleId → Bool) (target_of : GlobId → Option ModuleId) where
  pub led_or_home : (home : ModuleId) (c : Content V) → Led left_out target_of c → LedOrHome left_out target_of home c
  led_or_home home c led m name ns b g t here by known lm lt = inr (led m name ns b g t here by known lm lt)

  module _ (at : ModuleId) (list : List (Entry V)) (old new : Content V)
      (edges : new.edges ≡ old.edges) (kept : KeepsGlobs at list old new) (begins : BeginsAt target_of new) (led : Led left_out target_of old) where
    -- after an update a glob leads to what it binds, or an entry of the list brought that
    pub led_or_brought : (m : ModuleId) (name : Name) (ns : Namespace) (b : Binding V) (g : GlobId) (t : ModuleId)
        → new.binding m name ns ≡ Some b → b.import ≡ Some (Glob g) → target_of g ≡ Some t → left_out m ≡ false → left_out t ≡ false
        → Leads new t m g (λ _. Unit {0}) ⊎ ((m ≡ at) × Brings list old m name ns g)
    led_or_brought m name ns b g t here by known lm lt =
        elim (kept m name ns g (b, here, by)) [
          | inl before ↦
              let lead = led m name ns before.0 g t before.1 before.2 known lm lt in
              inl (lead.0, (lead.1.0, ap (λ (f : ModuleId → List (EdgeTo _)). slice_get (f t) lead.0) edges ∙ lead.1.1, lead.1.2, lead.1.3, tt))
          | inr more ↦ elim more [
            | inr brought ↦ inr brought
            | inl edge ↦
                let e = edge.1.1.0 in
                let from : edge.0 ≡ t = begins edge.0 edge.1.0 e t edge.1.1.1 (ap target_of edge.1.1.3 ∙ known) in
                inl (edge.1.0, (e, ap (λ z. slice_get (new.edges z) edge.1.0) (sym from) ∙ edge.1.1.1, edge.1.1.2, edge.1.1.3, tt))
          ]
        ]

    -- a list without an entry by a known glob keeps all globs led
    pub led_updated : ((e : Entry V) (g : GlobId) → Contains list e → e.origin ≡ Some (Glob g) → target_of g ≡ None) → Led left_out target_of new
    led_updated unknown m name ns b g t here by known lm lt =
        elim (led_or_brought m name ns b g t here by known lm lt) [
          | inl lead ↦ lead
          | inr brought ↦ absurd (let e = unknown brought.1.entry g brought.1.listed brought.1.by in let wrong : Some t ≡ None = sym known ∙ e in cc)
        ]

    -- a list of one glob's names does so once that glob's edge is added, or where the list brings nothing to a vacant place
    pub led_recorded : (source : ModuleId) (glob : GlobId) (last : Content V) → last.binding ≡ new.binding → AreSingle new → AddsEdge source at glob new last
        → target_of glob ≡ Some source
        → ((e : Entry V) (g : GlobId) → Contains list e → e.origin ≡ Some (Glob g) → (g ≡ glob) ⊎ (target_of g ≡ None))
        → (edge_to (new.edges source) at ≡ None) ⊎ (left_out at ≡ false → (name : Name) (ns : Namespace) → Brings list old at name ns glob → ⊥)
        → Led left_out target_of last
    led_recorded source glob last same single added target ours fresh m name ns b g t here by known lm lt =
        elim (led_or_brought m name ns b g t (ap (λ (f : ModuleId → Name → Namespace → Option (Binding V)). f m name ns) (sym same) ∙ here) by known lm lt) [
          | inl lead ↦ added.kept single t m g lead
          | inr brought ↦ elim (ours brought.1.entry g brought.1.listed brought.1.by) [
            | inr unknown ↦ absurd (let wrong : Some t ≡ None = sym known ∙ unknown in cc)
            | inl own ↦
                let to : t ≡ source = let e : Some t ≡ Some source = sym known ∙ (ap target_of own ∙ target) in cc in
                elim fresh [
                  | inl none ↦
                      subst (λ z. Leads last z m g (λ _. Unit {0})) (sym to)
                      (subst (λ z. Leads last source z g (λ _. Unit {0})) (sym brought.0) (subst (λ z. Leads last source at z (λ _. Unit {0})) (sym own) (added.leads none)))
                  | inr nothing ↦
                      absurd (nothing (ap left_out (sym brought.0) ∙ lm) name ns (subst (λ z. Brings list old at name ns z) own (subst (λ z. Brings list old z name ns g) brought.0 brought.1)))
                ]
          ]
        ]

-- where an edge of the source leads there already, what the source binds and the importer sees comes to no vacant place
pub nothing_brought : {V : Type 0} (o : Order V) (left_out : ModuleId → Bool) (source at : ModuleId) (list : List (Entry V)) (c : Content V) (edge : EdgeTo V)
    → IsClosed o left_out c → edge_to (c.edges source) at ≡ Some edge
    → ((e : Entry V) (name : Name) (ns : Namespace) → Contains list e → slot_of e ≡ Some (Named name ns) → (b : Binding V) × (c.binding source name ns ≡ Some b) × (o.can_see at b.vis ≡ true))
    → left_out at ≡ false → (name : Name) (ns : Namespace) (glob : GlobId) → Brings list c at name ns glob → ⊥
nothing_brought o left_out source at list c edge closed there shown kept_in name ns glob brings =
    let found = found_importer (c.edges source) at edge there in
    let own = shown brings.entry name ns brings.listed brings.slot in
    let bound = closed source found.1.0 edge (Named name ns) own.0 found.1.1 (ap left_out found.0 ∙ kept_in) own.1 (ap (λ z. o.can_see z own.0.vis) found.0 ∙ own.2) in
    let here : c.binding at name ns ≡ Some bound.0 = ap (λ z. c.binding z name ns) (sym found.0) ∙ bound.1 in
    let wrong : None ≡ Some bound.0 = sym brings.vacant ∙ here in
    cc
