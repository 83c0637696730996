-- The copies along one edge do that edge's share of what is pending, and what they change is pending.
use Rattle.std.proofs.Common.{◌≡◌, ℕ, Bool, true, false, cond, Option, Some, None, List, [], ◌∷◌, ◌++◌, refl, sym, ap, ◌∙◌, subst, inl, inr, ◌⊎◌}
use Rattle.std.specs.Prelude.{slice_get, Contains}
use Rattle.std.proofs.lemmas.List.Elements.{Contains-append_right}
use Rattle.def_ids.specs.declared.ids.ModuleId.{ModuleId}
use Rattle.tree_ids.specs.declared.name.Name.{Name}
use Rattle.def_bindings.specs.declared.bindings.Namespace.{Namespace}
use Rattle.def_ids.specs.declared.ids.GlobId.{GlobId}
use Rattle.def_ids.specs.declared.ids.Def.{Def}
use Rattle.def_bindings.specs.declared.bindings.ImportOrExternCrate.TheVariants.{Glob}
use Rattle.def_bindings.specs.declared.bindings.Binding.{Binding}
use Rattle.def_bindings.specs.declared.bindings.EdgeTo.{EdgeTo}
use Rattle.def_bindings.specs.declared.bindings.Slot.{Slot}
use Rattle.def_bindings.specs.declared.bindings.Slot.TheVariants.{Named}
use Rattle.def_bindings.specs.Order.{Order}
use Rattle.def_bindings.specs.Content.{Content}
use Rattle.def_bindings.specs.Puts.{held, settled, carried, copied}
use Rattle.def_globs.specs.Pending.{is_changed, copied_all, reached}
use Rattle.def_globs.specs.Waves.{Copies, more}
use Rattle.def_bindings.specs.HeldLaws.{cases_place}
use Rattle.def_globs.proofs.SettlingLaws.{raised, replaced, settled_cases}
use Rattle.def_globs.proofs.CopyingLaws.{Moved, copy_cases, edges_copied}
use Rattle.def_globs.proofs.ClosingLemmas.{Pending, Passes, ClosedBut, closed_copied}
use Rattle.def_globs.proofs.CoheringLemmas.{BeginsAt, Leads, LedOrHome, CoherentBut, HasDefs, coherent_copied, glob_is, leads_moved}
use Rattle.def_globs.proofs.ListLaws.{first_in, later_in, none_in, in_cases}
use Rattle.def_globs.proofs.StepsLemmas.{defs_after}

-- what is pending elsewhere, and these slots along the edge of an index
abbrev pub With : Pending → ModuleId → ℕ → List Slot → Pending
With P s k xs = λ m j y. P m j y ⊎ ((m ≡ s) × (j ≡ k) × Contains xs y)

pub closed_mono : {V : Type 0} (o : Order V) (left_out : ModuleId → Bool) (P Q : Pending) (c : Content V) → ((m : ModuleId) (j : ℕ) (y : Slot) → P m j y → Q m j y) → ClosedBut o left_out P c → ClosedBut o left_out Q c
closed_mono o left_out P Q c f closed s k e x b at left h seen = elim (closed s k e x b at left h seen) [ inl bound ↦ inl bound | inr p ↦ inr (f s k x p) ]

pub coherent_mono : {V : Type 0} (o : Order V) (left_out : ModuleId → Bool) (target_of : GlobId → Option ModuleId) (P Q : Pending) (c : Content V) → ((m : ModuleId) (j : ℕ) (y : Slot) → P m j y → Q m j y)
    → CoherentBut o left_out target_of P c → CoherentBut o left_out target_of Q c
coherent_mono o left_out target_of P Q c f coherent i name ns b g m here by known li lm =
    elim (coherent i name ns b g m here by known li lm) [
      | inl follows ↦ inl follows
      | inr p ↦ inr (p.0, (p.1.0, (p.1.1.0, p.1.1.1, p.1.1.2, p.1.1.3, f m p.1.0 (Named name ns) p.1.1.4)))
    ]

pub in_reached : (changed : Bool) (x : Slot) (rest : List Slot) → changed ≡ true → Contains (cond changed (x ∷ []) [] ++ rest) x
in_reached true x rest h = first_in x rest
in_reached false x rest h = cc

pub passes_one : (P' : Pending) (s : ModuleId) (k : ℕ) (x : Slot) (xs : List Slot) (importer : ModuleId) (changed : Bool)
    → (changed ≡ true → (j : ℕ) → P' importer j x)
    → Passes (With P' s k (x ∷ xs)) (With P' s k xs) s k x importer changed
passes_one P' s k x xs importer changed adds = record {
  keeps = λ m j y p. elim p [
    | inl p' ↦ inl (inl p')
    | inr q ↦ elim (in_cases x xs y q.2) [
      | inl same ↦ inr (q.0, q.1, same)
      | inr later ↦ inl (inr (q.0, q.1, later))
    ]
  ];
  adds = λ h j. inl (adds h j);
}

pub nothing_more : (P' : Pending) (s : ModuleId) (k : ℕ) (m : ModuleId) (j : ℕ) (y : Slot) → With P' s k [] m j y → P' m j y
nothing_more P' s k m j y p = elim p [ inl p' ↦ p' | inr q ↦ absurd (none_in y q.2) ]

module _ {V : Type 0} (o : Order V) (left_out : ModuleId → Bool) (P' : Pending) (s : ModuleId) (k : ℕ) (e : EdgeTo V) where
  pub at_after : (x : Slot) (c : Content V) → slice_get (c.edges s) k ≡ Some e → slice_get ((copied o s e x c).edges s) k ≡ Some e
  at_after x c at = ap (λ (f : ModuleId → List (EdgeTo _)). slice_get (f s) k) (edges_copied o s e x c) ∙ at

  pub closed_all : (xs : List Slot) (c : Content V) → slice_get (c.edges s) k ≡ Some e
      → ((y : Slot) → Contains (reached o s e xs c) y → (j : ℕ) → P' e.importer j y)
      → ClosedBut o left_out (With P' s k xs) c → ClosedBut o left_out P' (copied_all o s e xs c)
  closed_all [] c at adds closed = closed_mono o left_out (With P' s k []) P' c (nothing_more P' s k) closed
  closed_all (x ∷ xs) c at adds closed =
      let passes = passes_one P' s k x xs e.importer (is_changed o s e x c) (λ h j. adds x (in_reached _ x _ h) j) in
      closed_all xs (copied o s e x c) (at_after x c at)
      (λ y h j. adds y (Contains-append_right (cond (is_changed o s e x c) (x ∷ []) []) _ y h) j)
      (closed_copied o left_out (With P' s k (x ∷ xs)) (With P' s k xs) s k e x c at passes closed)

  module _ (target_of : GlobId → Option ModuleId) (home : ModuleId) where
    pub begins_after : (x : Slot) (c : Content V) → BeginsAt target_of c → BeginsAt target_of (copied o s e x c)
    begins_after x c begins source index edge target at' known =
        begins source index edge target (ap (λ (f : ModuleId → List (EdgeTo _)). slice_get (f source) index) (sym (edges_copied o s e x c)) ∙ at') known

    -- a binding by the edge's own glob is led there by the edge
    led_by_edge : (c : Content V) (m : ModuleId) (g : GlobId) → slice_get (c.edges s) k ≡ Some e → e.glob ≡ g → s ≡ m → Leads c m e.importer g (λ _. Unit {0})
    led_by_edge c m g at h q = (k, (e, ap (λ n. slice_get (c.edges n) k) (sym q) ∙ at, refl, h, tt))

    led_here : (c c' : Content V) → slice_get (c.edges s) k ≡ Some e → BeginsAt target_of c → LedOrHome left_out target_of home c
        → (name : Name) (ns : Namespace) (moved : Moved o s e (Named name ns) c c') (g : GlobId) (m : ModuleId) → moved.now.import ≡ Some (Glob g) → target_of g ≡ Some m
        → left_out e.importer ≡ false → left_out m ≡ false
        → (there : Option (Binding V)) → c.binding e.importer name ns ≡ there
        → (e.importer ≡ home) ⊎ Leads c' m e.importer g (λ _. Unit {0})
    led_here c c' at begins led name ns moved g m by known li lm None i =
        let r : settled o None (carried o e moved.own) ≡ Some moved.now = subst (λ t. settled o t (carried o e moved.own) ≡ Some moved.now) i moved.settles in
        let f : carried o e moved.own ≡ moved.now = cc in
        let h : e.glob ≡ g = glob_is e.glob g (ap (λ n. n.import) f ∙ by) in
        let q : s ≡ m = begins s k e m at (ap target_of h ∙ known) in
        inr (leads_moved c c' m e.importer g _ (λ _. Unit {0}) moved.same_edges (led_by_edge c m g at h q) tt)
    led_here c c' at begins led name ns moved g m by known li lm (Some t) i =
        let r : settled o (Some t) (carried o e moved.own) ≡ Some moved.now = subst (λ t. settled o t (carried o e moved.own) ≡ Some moved.now) i moved.settles in
        elim (settled_cases o t (carried o e moved.own) moved.now e.glob refl r).2 [
          | replaced d eq f ↦
              let h : e.glob ≡ g = glob_is e.glob g (sym (ap (λ n. n.import) f) ∙ by) in
              let q : s ≡ m = begins s k e m at (ap target_of h ∙ known) in
              inr (leads_moved c c' m e.importer g _ (λ _. Unit {0}) moved.same_edges (led_by_edge c m g at h q) tt)
          | raised d rise f ↦
              let t_by : t.import ≡ Some (Glob g) = sym (ap (λ n. n.import) f) ∙ by in
              elim (led e.importer name ns t g m i t_by known li lm) [
                | inl at_home ↦ inl at_home
                | inr lead ↦ inr (leads_moved c c' m e.importer g _ (λ _. Unit {0}) moved.same_edges lead tt)
              ]
        ]

    led_moved : (x : Slot) (c c' : Content V) → slice_get (c.edges s) k ≡ Some e → BeginsAt target_of c → LedOrHome left_out target_of home c
        → Moved o s e x c c' → LedOrHome left_out target_of home c'
    led_moved x c c' at begins led moved i name ns b g m here by known li lm =
        elim (cases_place e.importer x i (Named name ns)) [
          | inl same ↦
              let moved' : Moved o s e (Named name ns) c c' = subst (λ y. Moved o s e y c c') same.1 moved in
              let f : Some moved'.now ≡ Some b = sym moved'.now_is ∙ (ap (λ n. held c' n (Named name ns)) same.0 ∙ here) in
              let is_b : moved'.now ≡ b = cc in
              let li' : left_out e.importer ≡ false = ap left_out same.0 ∙ li in
              let result = led_here c c' at begins led name ns moved' g m (ap (λ n. n.import) is_b ∙ by) known li' lm (c.binding e.importer name ns) refl in
              subst (λ n. (n ≡ home) ⊎ Leads c' m n g (λ _. Unit {0})) same.0 result
          | inr apart ↦
              elim (led i name ns b g m (sym (moved.elsewhere i (Named name ns) apart) ∙ here) by known li lm) [
                | inl at_home ↦ inl at_home
                | inr lead ↦ inr (leads_moved c c' m i g _ (λ _. Unit {0}) moved.same_edges lead tt)
              ]
        ]

    pub led_after : (x : Slot) (c : Content V) → slice_get (c.edges s) k ≡ Some e → BeginsAt target_of c → LedOrHome left_out target_of home c → LedOrHome left_out target_of home (copied o s e x c)
    led_after x c at begins led =
        elim (copy_cases o s e x c) [
          | inl still ↦ subst (λ d. LedOrHome left_out target_of home d) (sym still.1.same) led
          | inr moved ↦ led_moved x c (copied o s e x c) at begins led moved.1
        ]

    pub coherent_all : (S : Slot → Type 0) (def_of : Slot → Def) (xs : List Slot) (c : Content V)
        → slice_get (c.edges s) k ≡ Some e → BeginsAt target_of c → LedOrHome left_out target_of home c
        → HasDefs c home S def_of → HasDefs c s (Contains xs) def_of → ((y : Slot) → Contains xs y → S y)
        → ((y : Slot) → Contains (reached o s e xs c) y → (j : ℕ) → P' e.importer j y)
        → CoherentBut o left_out target_of (With P' s k xs) c
        → CoherentBut o left_out target_of P' (copied_all o s e xs c) × LedOrHome left_out target_of home (copied_all o s e xs c)
    coherent_all S def_of [] c at begins led homes sources inside adds coherent = (coherent_mono o left_out target_of (With P' s k []) P' c (nothing_more P' s k) coherent, led)
    coherent_all S def_of (x ∷ xs) c at begins led homes sources inside adds coherent =
        let passes = passes_one P' s k x xs e.importer (is_changed o s e x c) (λ h j. adds x (in_reached _ x _ h) j) in
        let source_def : (b : Binding V) → held c s x ≡ Some b → b.def ≡ def_of x = sources x (first_in x xs) in
        let rest : HasDefs c s (Contains xs) def_of = λ y q. sources y (later_in x xs y q) in
        coherent_all S def_of xs (copied o s e x c) (at_after x c at) (begins_after x c begins) (led_after x c at begins led)
        (defs_after o s e def_of x c source_def home S homes) (defs_after o s e def_of x c source_def s (Contains xs) rest)
        (λ y q. inside y (later_in x xs y q))
        (λ y h j. adds y (Contains-append_right (cond (is_changed o s e x c) (x ∷ []) []) _ y h) j)
        (coherent_copied o left_out target_of (With P' s k (x ∷ xs)) (With P' s k xs) s k e x c home S def_of at passes begins led homes (inside x (first_in x xs)) source_def coherent)

pub copies_all : {V : Type 0} (o : Order V) (s : ModuleId) (k : ℕ) (e : EdgeTo V) (slots : List Slot) (def_of : Slot → Def) (c0 : Content V) (xs : List Slot) (c : Content V)
    → slice_get (c.edges s) k ≡ Some e → HasDefs c s (Contains xs) def_of → ((y : Slot) → Contains xs y → Contains slots y)
    → Copies o slots def_of c0 c → Copies o slots def_of c0 (copied_all o s e xs c)
copies_all o s k e slots def_of c0 [] c at sources inside copies = copies
copies_all o s k e slots def_of c0 (x ∷ xs) c at sources inside copies =
    let source_def : (b : Binding _) → held c s x ≡ Some b → b.def ≡ def_of x = sources x (first_in x xs) in
    let rest : HasDefs c s (Contains xs) def_of = λ y q. sources y (later_in x xs y q) in
    copies_all o s k e slots def_of c0 xs (copied o s e x c)
    (ap (λ (f : ModuleId → List (EdgeTo _)). slice_get (f s) k) (edges_copied o s e x c) ∙ at)
    (defs_after o s e def_of x c source_def s (Contains xs) rest) (λ y q. inside y (later_in x xs y q))
    (more s e x k copies at (inside x (first_in x xs)) source_def)
