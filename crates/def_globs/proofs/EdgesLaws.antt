-- Lists of edges with one added or replaced.
use Rattle.std.proofs.Common.{◌≡◌, ℕ, zero, suc, true, false, Some, None, List, [], ◌∷◌, length, ◌++◌, cond, refl, sym, ap, ◌∙◌, subst, inl, inr, ◌⊎◌}
use Rattle.std.specs.Prelude.{slice_get, map}
use Rattle.std.proofs.lemmas.Bool.{cases_Bool, false≢true, or_left, or_right}
use Rattle.def_ids.specs.declared.ids.ModuleId.{ModuleId}
use Rattle.def_bindings.specs.declared.bindings.EdgeTo.{EdgeTo}
use Rattle.def_bindings.specs.Content.{replaced, leads_to}
use Rattle.def_ids.specs.Ids.{is_same_module}
use Rattle.def_bindings.specs.Puts.{edge_to}
use Rattle.def_bindings.specs.IdLaws.{module-sym, same_module_equal, same_module_itself}

-- an edge that was appended or put in the place of others is an old one or the new one
in_pushed : {X : Type 0} (xs : List X) (new x : X) (k : ℕ) → slice_get (xs ++ new ∷ []) k ≡ Some x → (slice_get xs k ≡ Some x) ⊎ (x ≡ new)
in_pushed [] new x zero h = inr cc
in_pushed [] new x (suc k) h = cc
in_pushed (y ∷ xs) new x zero h = inl h
in_pushed (y ∷ xs) new x (suc k) h = in_pushed xs new x k h

in_mapped : {V : Type 0} (es : List (EdgeTo V)) (edge e : EdgeTo V) (k : ℕ) → slice_get (map (λ (f : EdgeTo _). cond (is_same_module edge.importer f.importer) edge f) es) k ≡ Some e → (slice_get es k ≡ Some e) ⊎ (e ≡ edge)
in_mapped [] edge e k h = cc
in_mapped (f ∷ es) edge e zero h =
    elim (cases_Bool (is_same_module edge.importer f.importer)) [
      | inl same ↦ let g : Some edge ≡ Some e = rw same at h in inr cc
      | inr other ↦ let g : Some f ≡ Some e = rw other at h in inl g
    ]
in_mapped (f ∷ es) edge e (suc k) h = in_mapped es edge e k h

pub in_replaced : {V : Type 0} (es : List (EdgeTo V)) (edge e : EdgeTo V) (k : ℕ) → slice_get (replaced es edge) k ≡ Some e → (slice_get es k ≡ Some e) ⊎ (e ≡ edge)
in_replaced es edge e k h =
    elim (cases_Bool (leads_to edge.importer es)) [
      | inl there ↦ in_mapped es edge e k (rw there at h)
      | inr new ↦ in_pushed es edge e k (rw new at h)
    ]

-- an edge keeps its place in the changed list, as it was, or as the new one where both lead to one importer
pushed_at : {X : Type 0} (xs : List X) (new x : X) (k : ℕ) → slice_get xs k ≡ Some x → slice_get (xs ++ new ∷ []) k ≡ Some x
pushed_at [] new x k h = cc
pushed_at (y ∷ xs) new x zero h = h
pushed_at (y ∷ xs) new x (suc k) h = pushed_at xs new x k h

pub last_at : {X : Type 0} (xs : List X) (new : X) → slice_get (xs ++ new ∷ []) (length xs) ≡ Some new
last_at [] new = refl
last_at (y ∷ xs) new = last_at xs new

mapped_at : {X : Type 0} (f : X → X) (xs : List X) (x : X) (k : ℕ) → slice_get xs k ≡ Some x → slice_get (map f xs) k ≡ Some (f x)
mapped_at f [] x k h = cc
mapped_at f (y ∷ xs) x zero h = let e : y ≡ x = cc in ap (λ z. Some (f z)) e
mapped_at f (y ∷ xs) x (suc k) h = mapped_at f xs x k h

pub no_edge : {V : Type 0} (es : List (EdgeTo V)) (importer : ModuleId) → edge_to es importer ≡ None → leads_to importer es ≡ false
no_edge [] importer h = refl
no_edge (f ∷ es) importer h =
    elim (cases_Bool (is_same_module f.importer importer)) [
      | inl same ↦ absurd (let g : Some f ≡ None = rw same at h in cc)
      | inr other ↦
          let g : edge_to es importer ≡ None = rw other at h in
          let back : is_same_module importer f.importer ≡ false = module-sym importer f.importer ∙ other in
          rw (back, no_edge es importer g) refl
    ]

pub replaced_at : {V : Type 0} (es : List (EdgeTo V)) (edge e : EdgeTo V) (k : ℕ) → slice_get es k ≡ Some e
    → (slice_get (replaced es edge) k ≡ Some e) ⊎ ((edge.importer ≡ e.importer) × (slice_get (replaced es edge) k ≡ Some edge))
replaced_at es edge e k h =
    elim (cases_Bool (leads_to edge.importer es)) [
      | inr new ↦ rw new (inl (pushed_at es edge e k h))
      | inl there ↦
          let at = mapped_at (λ (f : EdgeTo _). cond (is_same_module edge.importer f.importer) edge f) es e k h in
          elim (cases_Bool (is_same_module edge.importer e.importer)) [
            | inl same ↦ let now : slice_get (map (λ (f : EdgeTo _). cond (is_same_module edge.importer f.importer) edge f) es) k ≡ Some edge = rw same at at in rw there (inr (same_module_equal edge.importer e.importer same, now))
            | inr other ↦ let now : slice_get (map (λ (f : EdgeTo _). cond (is_same_module edge.importer f.importer) edge f) es) k ≡ Some e = rw other at at in rw there (inl now)
          ]
    ]

pub missing_edge : {V : Type 0} (es : List (EdgeTo V)) (importer : ModuleId) (e : EdgeTo V) (k : ℕ) → slice_get es k ≡ Some e → e.importer ≡ importer → edge_to es importer ≡ None → ⊥
missing_edge [] importer e k at same h = cc
missing_edge (f ∷ es) importer e zero at same h =
    let is_e : f ≡ e = cc in
    let true_here : is_same_module f.importer importer ≡ true = subst (λ z. is_same_module f.importer z ≡ true) (ap (λ (z : EdgeTo _). z.importer) is_e ∙ same) (same_module_itself f.importer) in
    let g : Some f ≡ None = rw true_here at h in
    cc
missing_edge (f ∷ es) importer e (suc k) at same h =
    elim (cases_Bool (is_same_module f.importer importer)) [
      | inl here ↦ let g : Some f ≡ None = rw here at h in cc
      | inr apart ↦ missing_edge es importer e k at same (rw apart at h)
    ]

-- at most one edge of a list leads to an importer
abbrev pub IsSingle : {V : Type 0} → List (EdgeTo V) → Type 0
IsSingle es = (i j : ℕ) (e f : EdgeTo _) → slice_get es i ≡ Some e → slice_get es j ≡ Some f → e.importer ≡ f.importer → i ≡ j

-- the old edge at the place of one in a changed list, with the same importer
before_mapped : {V : Type 0} (es : List (EdgeTo V)) (edge e : EdgeTo V) (k : ℕ) → slice_get (map (λ (f : EdgeTo _). cond (is_same_module edge.importer f.importer) edge f) es) k ≡ Some e
    → (f : EdgeTo V) × ((slice_get es k ≡ Some f) × (f.importer ≡ e.importer))
before_mapped [] edge e k h = cc
before_mapped (f ∷ es) edge e zero h =
    elim (cases_Bool (is_same_module edge.importer f.importer)) [
      | inl same ↦
          let g : Some edge ≡ Some e = rw same at h in
          let is_e : edge ≡ e = cc in
          (f, (refl, sym (same_module_equal edge.importer f.importer same) ∙ ap (λ (z : EdgeTo _). z.importer) is_e))
      | inr other ↦
          let g : Some f ≡ Some e = rw other at h in
          let is_e : f ≡ e = cc in
          (f, (refl, ap (λ (z : EdgeTo _). z.importer) is_e))
    ]
before_mapped (f ∷ es) edge e (suc k) h = before_mapped es edge e k h

before_pushed : {V : Type 0} (es : List (EdgeTo V)) (edge e : EdgeTo V) (k : ℕ) → slice_get (es ++ edge ∷ []) k ≡ Some e → (slice_get es k ≡ Some e) ⊎ ((k ≡ length es) × (e ≡ edge))
before_pushed [] edge e zero h = inr (refl, cc)
before_pushed [] edge e (suc k) h = cc
before_pushed (f ∷ es) edge e zero h = inl h
before_pushed (f ∷ es) edge e (suc k) h = elim (before_pushed es edge e k h) [ inl old ↦ inl old | inr last ↦ inr (ap suc last.0, last.1) ]

leads_at : {V : Type 0} (es : List (EdgeTo V)) (importer : ModuleId) (e : EdgeTo V) (k : ℕ) → slice_get es k ≡ Some e → importer ≡ e.importer → leads_to importer es ≡ true
leads_at [] importer e k at same = cc
leads_at (f ∷ es) importer e zero at same =
    let is_e : f ≡ e = cc in
    or_left (is_same_module importer f.importer) _ (subst (λ z. is_same_module importer z ≡ true) (same ∙ ap (λ (z : EdgeTo _). z.importer) (sym is_e)) (same_module_itself importer))
leads_at (f ∷ es) importer e (suc k) at same = or_right (is_same_module importer f.importer) _ (leads_at es importer e k at same)

none_leads : {V : Type 0} (es : List (EdgeTo V)) (importer : ModuleId) (e : EdgeTo V) (k : ℕ) → leads_to importer es ≡ false → slice_get es k ≡ Some e → importer ≡ e.importer → ⊥
none_leads es importer e k h at same = false≢true (sym h ∙ leads_at es importer e k at same)

pub single_replaced : {V : Type 0} (es : List (EdgeTo V)) (edge : EdgeTo V) → IsSingle es → IsSingle (replaced es edge)
single_replaced es edge single i j e f at at' same =
    elim (cases_Bool (leads_to edge.importer es)) [
      | inl there ↦
          let p = before_mapped es edge e i (rw there at at) in
          let q = before_mapped es edge f j (rw there at at') in
          single i j p.0 q.0 p.1.0 q.1.0 (p.1.1 ∙ (same ∙ sym q.1.1))
      | inr new ↦
          elim (before_pushed es edge e i (rw new at at)) [
            | inl p ↦ elim (before_pushed es edge f j (rw new at at')) [
              | inl q ↦ single i j e f p q same
              | inr q ↦ absurd (none_leads es edge.importer e i new p (ap (λ (z : EdgeTo _). z.importer) (sym q.1) ∙ sym same))
            ]
            | inr p ↦ elim (before_pushed es edge f j (rw new at at')) [
              | inl q ↦ absurd (none_leads es edge.importer f j new q (ap (λ (z : EdgeTo _). z.importer) (sym p.1) ∙ same))
              | inr q ↦ p.0 ∙ sym q.0
            ]
          ]
    ]
