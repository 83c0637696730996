-- Coherent but for what is pending, over one copy.
use Rattle.std.proofs.Common.{◌≡◌, ℕ, Bool, true, false, Option, Some, None, List, refl, sym, ap, ◌∙◌, subst, inl, inr, ◌⊎◌}
use Rattle.std.specs.Prelude.{slice_get}
use Rattle.std.proofs.lemmas.Bool.{false≢true, and_from}
use Rattle.def_ids.specs.declared.ids.ModuleId.{ModuleId}
use Rattle.tree_ids.specs.declared.name.Name.{Name}
use Rattle.def_bindings.specs.declared.bindings.Namespace.{Namespace}
use Rattle.def_ids.specs.declared.ids.GlobId.{GlobId}
use Rattle.def_ids.specs.declared.ids.Def.{Def}
use Rattle.def_bindings.specs.declared.bindings.ImportOrExternCrate.TheVariants.{Glob}
use Rattle.def_bindings.specs.declared.bindings.Binding.{Binding}
use Rattle.def_bindings.specs.declared.bindings.EdgeTo.{EdgeTo}
use Rattle.def_bindings.specs.declared.bindings.Slot.{Slot}
use Rattle.def_bindings.specs.declared.bindings.Slot.TheVariants.{Named}
use Rattle.def_bindings.specs.Order.{Order}
use Rattle.def_bindings.specs.Content.{Content}
pub use Rattle.def_globs.specs.Waves.{BeginsAt, Leads, LedOrHome}
pub use Rattle.def_globs.specs.Pending.{CoherentBut}
use Rattle.def_bindings.specs.Puts.{held, settled, carried, copied}
use Rattle.def_globs.specs.Pending.{is_changed}
use Rattle.def_bindings.specs.Closure.{IsBound, Follows}
use Rattle.def_bindings.specs.IdLaws.{same_module_itself}
use Rattle.def_bindings.specs.Slots.{is_same_place}
use Rattle.def_bindings.specs.HeldLaws.{cases_place, slot-refl}
use Rattle.def_globs.proofs.SettlingLaws.{raised, replaced, settled_cases, settled_unchanged}
use Rattle.def_globs.proofs.CopyingLaws.{Moved, Still, copy_cases}
use Rattle.def_globs.proofs.ClosingLemmas.{Pending, Passes}

-- these slots have one definition each at a module
abbrev pub HasDefs : {V : Type 0} → Content V → ModuleId → (Slot → Type 0) → (Slot → Def) → Type 0
HasDefs c m S def_of = (slot : Slot) → S slot → (b : Binding _) → held c m slot ≡ Some b → b.def ≡ def_of slot

pub glob_is : (g h : GlobId) → Some (Glob g) ≡ Some (Glob h) → g ≡ h
glob_is g h e = cc

-- an edge at one index is one edge
edge_is : {V : Type 0} (c : Content V) (m s : ModuleId) (j k : ℕ) (e' e : EdgeTo V) → slice_get (c.edges m) j ≡ Some e' → slice_get (c.edges s) k ≡ Some e → m ≡ s → j ≡ k → e' ≡ e
edge_is c m s j k e' e i h p q =
    let f : Some e' ≡ Some e = sym i ∙ (ap (λ n. slice_get (c.edges n) j) p ∙ (ap (λ n. slice_get (c.edges s) n) q ∙ h)) in cc

pub absurd_apart : (m : ModuleId) (x : Slot) → is_same_place m x m x ≡ false → ⊥
absurd_apart m x h = false≢true (sym h ∙ and_from _ _ (same_module_itself m) (slot-refl x))

-- the binding of an edge's glob at its importer, where the copy changes nothing
still_follows : {V : Type 0} (o : Order V) (s : ModuleId) (e : EdgeTo V) (name : Name) (ns : Namespace) (c : Content V) (b own : Binding V)
    → Still o s e (Named name ns) c c → held c s (Named name ns) ≡ Some own
    → c.binding e.importer name ns ≡ Some b → b.import ≡ Some (Glob e.glob)
    → (v : Bool) → o.can_see e.importer own.vis ≡ v
    → Follows o c s e.importer (Named name ns) b.def
still_follows o s e name ns c b own still i j k true seen =
    let r = still.refused own i seen in
    let r' : settled o (Some b) (carried o e own) ≡ None = subst (λ t. settled o t (carried o e own) ≡ None) j r in
    (own, i, inl (sym (settled_unchanged o b (carried o e own) e.glob k refl r')))
still_follows o s e name ns c b own still i j k false unseen = (own, i, inr unseen)

pub coherent_still : {V : Type 0} (o : Order V) (left_out : ModuleId → Bool) (target_of : GlobId → Option ModuleId) (P P' : Pending) (s : ModuleId) (k : ℕ) (e : EdgeTo V) (x : Slot) (c : Content V) (changed : Bool)
    → slice_get (c.edges s) k ≡ Some e → Passes P P' s k x e.importer changed
    → Still o s e x c c → CoherentBut o left_out target_of P c → CoherentBut o left_out target_of P' c
coherent_still o left_out target_of P P' s k e x c changed at passes still coherent i name ns b g m here by known li lm =
    elim (coherent i name ns b g m here by known li lm) [
      | inl follows ↦ inl follows
      | inr p ↦
          let lead = p.1.1 in
          elim (passes.keeps m p.1.0 (Named name ns) lead.4) [
            | inl p' ↦ inr (p.0, (p.1.0, (lead.0, lead.1, lead.2, lead.3, p')))
            | inr q ↦
                let same : lead.0 ≡ e = edge_is c m s p.1.0 k lead.0 e lead.1 at q.0 q.1 in
                let to : i ≡ e.importer = sym lead.2 ∙ ap (λ (n : EdgeTo _). n.importer) same in
                let of : g ≡ e.glob = sym lead.3 ∙ ap (λ (n : EdgeTo _). n.glob) same in
                let still' : Still o s e (Named name ns) c c = subst (λ y. Still o s e y c c) (sym q.2) still in
                let own : held c s (Named name ns) ≡ Some p.0.0 = ap (λ n. held c n (Named name ns)) (sym q.0) ∙ p.0.1 in
                let there : c.binding e.importer name ns ≡ Some b = ap (λ n. c.binding n name ns) (sym to) ∙ here in
                let result = still_follows o s e name ns c b p.0.0 still' own there (by ∙ ap (λ z. Some (Glob z)) of) _ refl in
                inl (subst (λ n. Follows o c n i (Named name ns) b.def) (sym q.0) (subst (λ n. Follows o c s n (Named name ns) b.def) (sym to) result))
          ]
    ]

-- what was bound stays bound
pub bound_moved : {V : Type 0} (o : Order V) (s : ModuleId) (e : EdgeTo V) (x : Slot) (c c' : Content V) (m : ModuleId) (y : Slot) → Moved o s e x c c' → IsBound c m y → IsBound c' m y
bound_moved o s e x c c' m y moved bound =
    elim (cases_place e.importer x m y) [
      | inl here ↦ (moved.now, ap (λ n. held c' n y) (sym here.0) ∙ (ap (λ n. held c' e.importer n) (sym here.1) ∙ moved.now_is))
      | inr apart ↦ (bound.0, moved.elsewhere m y apart ∙ bound.1)
    ]

pub leads_moved : {V : Type 0} (c c' : Content V) (target importer : ModuleId) (g : GlobId) (Q R : ℕ → Type 0) → c'.edges ≡ c.edges
    → (l : Leads c target importer g Q) → R l.0 → Leads c' target importer g R
leads_moved c c' target importer g Q R same l r =
    (l.0, (l.1.0, ap (λ (f : ModuleId → List (EdgeTo _)). slice_get (f target) l.0) same ∙ l.1.1, l.1.2, l.1.3, r))

-- after a move, the source binds what the importer got
source_follows : {V : Type 0} (o : Order V) (s : ModuleId) (e : EdgeTo V) (y : Slot) (c c' : Content V) → (moved : Moved o s e y c c') → Follows o c' s e.importer y moved.now.def
source_follows o s e y c c' moved =
    elim (cases_place e.importer y s y) [
      | inl here ↦ (moved.now, ap (λ n. held c' n y) (sym here.0) ∙ moved.now_is, inl refl)
      | inr apart ↦ (moved.own, moved.elsewhere s y apart ∙ moved.own_is, inl (sym moved.now_def))
    ]

module _ {V : Type 0} (o : Order V) (left_out : ModuleId → Bool) (target_of : GlobId → Option ModuleId) (P P' : Pending)
    (s : ModuleId) (k : ℕ) (e : EdgeTo V) (c c' : Content V)
    (at : slice_get (c.edges s) k ≡ Some e)
    (coherent : CoherentBut o left_out target_of P c)
    (begins : BeginsAt target_of c) where
  -- the place that the move wrote
  coherent_here : (name : Name) (ns : Namespace) → Passes P P' s k (Named name ns) e.importer true
      → (moved : Moved o s e (Named name ns) c c') → (g : GlobId) (m : ModuleId) → moved.now.import ≡ Some (Glob g) → target_of g ≡ Some m
      → left_out e.importer ≡ false → left_out m ≡ false
      → (there : Option (Binding V)) → c.binding e.importer name ns ≡ there
      → Follows o c' m e.importer (Named name ns) moved.now.def ⊎ (IsBound c' m (Named name ns) × Leads c' m e.importer g (λ index. P' m index (Named name ns)))
  coherent_here name ns passes moved g m by known li lm None i =
      let r : settled o None (carried o e moved.own) ≡ Some moved.now = subst (λ t. settled o t (carried o e moved.own) ≡ Some moved.now) i moved.settles in
      let f : carried o e moved.own ≡ moved.now = cc in
      let h : e.glob ≡ g = glob_is e.glob g (ap (λ n. n.import) f ∙ by) in
      let q : s ≡ m = begins s k e m at (ap target_of h ∙ known) in
      inl (subst (λ n. Follows o c' n e.importer (Named name ns) moved.now.def) q (source_follows o s e (Named name ns) c c' moved))
  coherent_here name ns passes moved g m by known li lm (Some t) i =
      let r : settled o (Some t) (carried o e moved.own) ≡ Some moved.now = subst (λ t. settled o t (carried o e moved.own) ≡ Some moved.now) i moved.settles in
      elim (settled_cases o t (carried o e moved.own) moved.now e.glob refl r).2 [
        | replaced d eq f ↦
            let h : e.glob ≡ g = glob_is e.glob g (sym (ap (λ n. n.import) f) ∙ by) in
            let q : s ≡ m = begins s k e m at (ap target_of h ∙ known) in
            inl (subst (λ n. Follows o c' n e.importer (Named name ns) moved.now.def) q (source_follows o s e (Named name ns) c c' moved))
        | raised d rise f ↦
            let t_by : t.import ≡ Some (Glob g) = sym (ap (λ n. n.import) f) ∙ by in
            let same_def : t.def ≡ moved.now.def = sym (ap (λ n. n.def) f) in
            elim (coherent e.importer name ns t g m i t_by known li lm) [
              | inl follows ↦ inl (elim (cases_place e.importer (Named name ns) m (Named name ns)) [
                | inl here ↦ (moved.now, ap (λ n. held c' n (Named name ns)) (sym here.0) ∙ moved.now_is, inl refl)
                | inr apart ↦ (follows.0, moved.elsewhere m (Named name ns) apart ∙ follows.1, subst (λ d. (follows.0.def ≡ d) ⊎ (o.can_see e.importer follows.0.vis ≡ false)) same_def follows.2)
              ])
              | inr p ↦ elim (passes.keeps m p.1.0 (Named name ns) p.1.1.4) [
                | inl p' ↦ inr (bound_moved o s e (Named name ns) c c' m (Named name ns) moved p.0, leads_moved c c' m e.importer g _ (λ index. P' m index (Named name ns)) moved.same_edges p.1 p')
                | inr q ↦ inl (subst (λ n. Follows o c' n e.importer (Named name ns) moved.now.def) (sym q.0) (source_follows o s e (Named name ns) c c' moved))
              ]
            ]
      ]

  -- a place that the move left alone
  coherent_there : (home : ModuleId) (S : Slot → Type 0) (def_of : Slot → Def) (x : Slot)
      → LedOrHome left_out target_of home c → HasDefs c home S def_of → S x
      → Passes P P' s k x e.importer true → (moved : Moved o s e x c c') → moved.own.def ≡ def_of x
      → (i : ModuleId) (name : Name) (ns : Namespace) (b : Binding V) (g : GlobId) (m : ModuleId)
      → is_same_place e.importer x i (Named name ns) ≡ false
      → c.binding i name ns ≡ Some b → b.import ≡ Some (Glob g) → target_of g ≡ Some m → left_out i ≡ false → left_out m ≡ false
      → Follows o c' m i (Named name ns) b.def ⊎ (IsBound c' m (Named name ns) × Leads c' m i g (λ index. P' m index (Named name ns)))
  coherent_there home S def_of x led defs in_S passes moved own_def i name ns b g m there here by known li lm =
      elim (cases_place e.importer x m (Named name ns)) [
        | inl now ↦
            let target_is : held c' m (Named name ns) ≡ Some moved.now = ap (λ n. held c' n (Named name ns)) (sym now.0) ∙ (ap (λ n. held c' e.importer n) (sym now.1) ∙ moved.now_is) in
            elim (led i name ns b g m here by known li lm) [
              | inl at_home ↦
                  let in_S' : S (Named name ns) = subst S now.1 in_S in
                  let b_def = defs (Named name ns) in_S' b (ap (λ n. c.binding n name ns) (sym at_home) ∙ here) in
                  inl (moved.now, target_is, inl (moved.now_def ∙ (own_def ∙ (ap def_of now.1 ∙ sym b_def))))
              | inr lead ↦
                  inr (
                    (moved.now, target_is),
                    leads_moved c c' m i g _ (λ index. P' m index (Named name ns)) moved.same_edges lead
                        (subst (λ n. P' n lead.0 (Named name ns)) now.0 (subst (λ y. P' e.importer lead.0 y) now.1 (passes.adds refl lead.0))),
                  )
            ]
        | inr apart ↦
            elim (coherent i name ns b g m here by known li lm) [
              | inl follows ↦ inl (follows.0, moved.elsewhere m (Named name ns) apart ∙ follows.1, follows.2)
              | inr p ↦ elim (passes.keeps m p.1.0 (Named name ns) p.1.1.4) [
                | inl p' ↦ inr (bound_moved o s e x c c' m (Named name ns) moved p.0, leads_moved c c' m i g _ (λ index. P' m index (Named name ns)) moved.same_edges p.1 p')
                | inr q ↦
                    let same : p.1.1.0 ≡ e = edge_is c m s p.1.0 k p.1.1.0 e p.1.1.1 at q.0 q.1 in
                    let to : i ≡ e.importer = sym p.1.1.2 ∙ ap (λ (n : EdgeTo _). n.importer) same in
                    let no : is_same_place e.importer x e.importer x ≡ false = subst (λ y. is_same_place e.importer x e.importer y ≡ false) q.2 (subst (λ n. is_same_place e.importer x n (Named name ns) ≡ false) to there) in
                    absurd (absurd_apart e.importer x no)
              ]
            ]
      ]

coherent_moved : {V : Type 0} (o : Order V) (left_out : ModuleId → Bool) (target_of : GlobId → Option ModuleId) (P P' : Pending) (s : ModuleId) (k : ℕ) (e : EdgeTo V) (x : Slot) (c c' : Content V)
    (home : ModuleId) (S : Slot → Type 0) (def_of : Slot → Def)
    → slice_get (c.edges s) k ≡ Some e → Passes P P' s k x e.importer true
    → BeginsAt target_of c → LedOrHome left_out target_of home c → HasDefs c home S def_of → S x
    → ((b : Binding V) → held c s x ≡ Some b → b.def ≡ def_of x)
    → Moved o s e x c c' → CoherentBut o left_out target_of P c → CoherentBut o left_out target_of P' c'
coherent_moved o left_out target_of P P' s k e x c c' home S def_of at passes begins led defs in_S source_def moved coherent i name ns b g m here by known li lm =
    elim (cases_place e.importer x i (Named name ns)) [
      | inr there ↦
          let was : c.binding i name ns ≡ Some b = sym (moved.elsewhere i (Named name ns) there) ∙ here in
          coherent_there o left_out target_of P P' s k e c c' at coherent begins home S def_of x led defs in_S passes moved (source_def moved.own moved.own_is) i name ns b g m there was by known li lm
      | inl same ↦
          let moved' : Moved o s e (Named name ns) c c' = subst (λ y. Moved o s e y c c') same.1 moved in
          let passes' : Passes P P' s k (Named name ns) e.importer true = subst (λ y. Passes P P' s k y e.importer true) same.1 passes in
          let f : Some moved'.now ≡ Some b = sym moved'.now_is ∙ (ap (λ n. held c' n (Named name ns)) same.0 ∙ here) in
          let is_b : moved'.now ≡ b = cc in
          let li' : left_out e.importer ≡ false = ap left_out same.0 ∙ li in
          let result = coherent_here o left_out target_of P P' s k e c c' at coherent begins name ns passes' moved' g m (ap (λ n. n.import) is_b ∙ by) known li' lm (c.binding e.importer name ns) refl in
          let at_b = subst (λ n. Follows o c' m e.importer (Named name ns) n.def ⊎ (IsBound c' m (Named name ns) × Leads c' m e.importer g (λ index. P' m index (Named name ns)))) is_b result in
          subst (λ n. Follows o c' m n (Named name ns) b.def ⊎ (IsBound c' m (Named name ns) × Leads c' m n g (λ index. P' m index (Named name ns)))) same.0 at_b
    ]

pub coherent_copied : {V : Type 0} (o : Order V) (left_out : ModuleId → Bool) (target_of : GlobId → Option ModuleId) (P P' : Pending) (s : ModuleId) (k : ℕ) (e : EdgeTo V) (x : Slot) (c : Content V)
    (home : ModuleId) (S : Slot → Type 0) (def_of : Slot → Def)
    → slice_get (c.edges s) k ≡ Some e → Passes P P' s k x e.importer (is_changed o s e x c)
    → BeginsAt target_of c → LedOrHome left_out target_of home c → HasDefs c home S def_of → S x
    → ((b : Binding V) → held c s x ≡ Some b → b.def ≡ def_of x)
    → CoherentBut o left_out target_of P c → CoherentBut o left_out target_of P' (copied o s e x c)
coherent_copied o left_out target_of P P' s k e x c home S def_of at passes begins led defs in_S source_def coherent =
    elim (copy_cases o s e x c) [
      | inl still ↦
          let self : Still o s e x c c = record { same = refl; refused = still.1.refused } in
          subst (λ d. CoherentBut o left_out target_of P' d) (sym still.1.same)
          (coherent_still o left_out target_of P P' s k e x c (is_changed o s e x c) at passes self coherent)
      | inr moved ↦
          let passes' : Passes P P' s k x e.importer true = record { keeps = passes.keeps; adds = λ _ j. passes.adds moved.0 j } in
          coherent_moved o left_out target_of P P' s k e x c (copied o s e x c) home S def_of at passes' begins led defs in_S source_def moved.1 coherent
    ]
