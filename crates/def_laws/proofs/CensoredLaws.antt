-- What holds along globs holds still where the root of a crate of procedural macros is censored.
use Rattle.std.proofs.Common.{◌≡◌, ◌⊎◌, ◌∙◌, Bool, true, false, cond, ◌&&◌, not, List, [], ◌∷◌, map, Option, Some, None, option_map, refl, sym, ap, subst, inl, inr}
use Rattle.std.proofs.lemmas.Bool.{cases_Bool}
use Rattle.tree_ids.specs.declared.name.Name.{Name}
use Rattle.def_ids.specs.declared.ids.GlobId.{GlobId}
use Rattle.def_ids.specs.declared.ids.ModuleId.{ModuleId}
use Rattle.def_ids.specs.declared.ids.TraitId.{TraitId}
use Rattle.def_bindings.specs.declared.bindings.Binding.{Binding}
use Rattle.def_bindings.specs.declared.bindings.EdgeTo.{EdgeTo}
use Rattle.def_bindings.specs.declared.bindings.Slot.{Slot}
use Rattle.def_bindings.specs.declared.bindings.Slot.TheVariants.{Named, Unnamed}
use Rattle.def_bindings.specs.declared.visibility.Visibility.{Visibility}
use Rattle.def_bindings.specs.declared.visibility.Visibility.TheVariants.{Module, PubCrate, Public}
use Rattle.def_bindings.specs.Closure.{IsClosed, IsCoherent}
use Rattle.def_bindings.specs.Content.{Content, is_trait, vis_of}
use Rattle.def_bindings.specs.Order.{rises_to}
use Rattle.def_bindings.specs.Puts.{carried, held, unnamed_binding}
use Rattle.def_globs.specs.Raised.{IsRaisedAt}
use Rattle.def_oracle.specs.Oracle.{Oracle}
use Rattle.def_ids.specs.Ids.{is_same_module}
use Rattle.def_rules.specs.ProcMacros.{censored, censored_in, censored_binding, crate_only, is_declared_macro}
use Rattle.def_rules.specs.State.{State, Moment, order, root}
use Rattle.def_rules.specs.Steps.{Reaches}
use Rattle.def_rules.specs.Targets.{is_censored}
use Rattle.def_laws.proofs.LeftOutLaws.{left_out_along}

-- of a crate that is none of procedural macros all is shown as it is
uncensored : (s : State) → s.is_proc_macro ≡ false → censored s ≡ s.content
uncensored s none = ap (λ is. censored_in (λ m. is && is_same_module (root s.map) m) s.content) none

-- so it is at the end of its runs
pub uncensored_along : {oracle : Oracle} {a b : Moment} → Reaches oracle a b → a.state.is_proc_macro ≡ false → censored b.state ≡ b.state.content
uncensored_along {oracle} {a} {b} r none = uncensored b.state ((left_out_along {oracle = oracle} r).is_proc_macro ∙ none)

-- a binding, and what is shown of it: the same definition by the same import, and as visible, but that what was public may be seen in the crate alone
record IsShown (was now : Binding Visibility) : Type 0 where
  def : now.def ≡ was.def
  import : now.import ≡ was.import
  vis : (now.vis ≡ was.vis) ⊎ ((was.vis ≡ Public) × (now.vis ≡ PubCrate))

shown_itself : (b : Binding Visibility) → IsShown b b
shown_itself b = record { def = refl; import = refl; vis = inl refl }

crate_only_is : (vis : Visibility) → (crate_only vis ≡ vis) ⊎ ((vis ≡ Public) × (crate_only vis ≡ PubCrate))
crate_only_is (Module m) = inl refl
crate_only_is PubCrate = inl refl
crate_only_is Public = inr (refl, refl)

shown_binding : (b : Binding Visibility) → IsShown b (censored_binding b)
shown_binding b = by (is_declared_macro b)
  where
    by : (spared : Bool) → IsShown b (cond spared b (record b { vis = crate_only b.vis }))
    by true = shown_itself b
    by false = record { def = refl; import = refl; vis = crate_only_is b.vis }

-- the visibilities of a list of unnamed traits
vis_of-map : (es : List (TraitId × Visibility)) (t : TraitId) → vis_of (map (λ e. (e.0, crate_only e.1)) es) t ≡ option_map crate_only (vis_of es t)
vis_of-map [] t = refl
vis_of-map (e ∷ es) t =
    elim (cases_Bool (is_trait t e.0)) [
      | inl here ↦ rw here refl
      | inr apart ↦ rw apart (vis_of-map es t)
    ]

module _ (s : State) where
  abbrev shown : Content Visibility
  shown = censored s

  -- what is held, by whether its module is censored
  abbrev HeldBy : Bool → ModuleId → Slot → Option (Binding Visibility)
  HeldBy is m (Named name ns) = cond is (option_map censored_binding (s.content.binding m name ns)) (s.content.binding m name ns)
  HeldBy is m (Unnamed t) = option_map (unnamed_binding t) (vis_of (cond is (map (λ e. (e.0, crate_only e.1)) (s.content.unnamed m)) (s.content.unnamed m)) t)

  held_is : (m : ModuleId) (slot : Slot) → held shown m slot ≡ HeldBy (is_censored s m) m slot
  held_is m (Named name ns) = refl
  held_is m (Unnamed t) = refl

  -- elsewhere all is as it was
  held_same : (m : ModuleId) (slot : Slot) → is_censored s m ≡ false → held shown m slot ≡ held s.content m slot
  held_same m (Named name ns) other = ap (λ is. HeldBy is m (Named name ns)) other
  held_same m (Unnamed t) other = ap (λ is. HeldBy is m (Unnamed t)) other

  option_shown : (o : Option (Binding Visibility)) (b : Binding Visibility) → option_map censored_binding o ≡ Some b → (was : Binding Visibility) × (o ≡ Some was) × IsShown was b
  option_shown None b is = absurd (cc is)
  option_shown (Some was) b is = let same : censored_binding was ≡ b = cc in (was, refl, subst (IsShown was) same (shown_binding was))

  unnamed_shown : (t : TraitId) (o : Option Visibility) (b : Binding Visibility) → option_map (unnamed_binding t) (option_map crate_only o) ≡ Some b → (was : Binding Visibility) × (option_map (unnamed_binding t) o ≡ Some was) × IsShown was b
  unnamed_shown t None b is = absurd (cc is)
  unnamed_shown t (Some vis) b is =
      let same : unnamed_binding t (crate_only vis) ≡ b = cc in
      (unnamed_binding t vis, refl, subst (IsShown (unnamed_binding t vis)) same (record { def = refl; import = refl; vis = crate_only_is vis }))

  -- what is shown was bound
  was_by : (is : Bool) (m : ModuleId) (slot : Slot) (b : Binding Visibility) → HeldBy is m slot ≡ Some b → (was : Binding Visibility) × (held s.content m slot ≡ Some was) × IsShown was b
  was_by false m (Named name ns) b there = (b, there, shown_itself b)
  was_by false m (Unnamed t) b there = (b, there, shown_itself b)
  was_by true m (Named name ns) b there = option_shown (s.content.binding m name ns) b there
  was_by true m (Unnamed t) b there = unnamed_shown t (vis_of (s.content.unnamed m) t) b (sym (ap (option_map (unnamed_binding t)) (vis_of-map (s.content.unnamed m) t)) ∙ there)

  was_held : (m : ModuleId) (slot : Slot) (b : Binding Visibility) → held shown m slot ≡ Some b → (was : Binding Visibility) × (held s.content m slot ≡ Some was) × IsShown was b
  was_held m slot b there = was_by (is_censored s m) m slot b (sym (held_is m slot) ∙ there)

  -- what was bound is shown
  is_by : (is : Bool) (m : ModuleId) (slot : Slot) (was : Binding Visibility) → held s.content m slot ≡ Some was → (b : Binding Visibility) × (HeldBy is m slot ≡ Some b) × IsShown was b
  is_by false m (Named name ns) was there = (was, there, shown_itself was)
  is_by false m (Unnamed t) was there = (was, there, shown_itself was)
  is_by true m (Named name ns) was there = (censored_binding was, ap (option_map censored_binding) there, shown_binding was)
  is_by true m (Unnamed t) was there = by (vis_of (s.content.unnamed m) t) refl there
    where
      by : (o : Option Visibility) → vis_of (s.content.unnamed m) t ≡ o → option_map (unnamed_binding t) o ≡ Some was → (b : Binding Visibility) × (HeldBy true m (Unnamed t) ≡ Some b) × IsShown was b
      by None known is = absurd (cc is)
      by (Some vis) known is =
          let same : unnamed_binding t vis ≡ was = cc in (
            unnamed_binding t (crate_only vis),
            ap (option_map (unnamed_binding t)) (vis_of-map (s.content.unnamed m) t ∙ ap (option_map crate_only) known),
            subst (λ w. IsShown w (unnamed_binding t (crate_only vis))) same (record { def = refl; import = refl; vis = crate_only_is vis }),
          )

  is_held : (m : ModuleId) (slot : Slot) (was : Binding Visibility) → held s.content m slot ≡ Some was → (b : Binding Visibility) × (held shown m slot ≡ Some b) × IsShown was b
  is_held m slot was there = let b = is_by (is_censored s m) m slot was there in (b.0, held_is m slot ∙ b.1, b.2)

  -- what an importer sees of what is shown it saw
  saw : (importer : ModuleId) (was b : Binding Visibility) → IsShown was b → (order s).can_see importer b.vis ≡ true → (order s).can_see importer was.vis ≡ true
  saw importer was b is seen =
      elim is.vis [
        | inl same ↦ subst (λ v. (order s).can_see importer v ≡ true) same seen
        | inr lowered ↦ subst (λ v. (order s).can_see importer v ≡ true) (sym lowered.0) refl
      ]

  -- and what it did not see it does not see
  unseen : (importer : ModuleId) (was b : Binding Visibility) → IsShown was b → (order s).can_see importer was.vis ≡ false → (order s).can_see importer b.vis ≡ false
  unseen importer was b is hidden =
      elim is.vis [
        | inl same ↦ subst (λ v. (order s).can_see importer v ≡ false) (sym same) hidden
        | inr lowered ↦ absurd (let wrong : true ≡ false = subst (λ v. (order s).can_see importer v ≡ false) lowered.0 hidden in cc)
      ]

  pub censored_closed : (left_out : ModuleId → Bool) → IsClosed (order s) left_out s.content → IsClosed (order s) left_out shown
  censored_closed left_out closed source index edge slot b at left there seen =
      let was = was_held source slot b there in
      let bound = closed source index edge slot was.0 at left was.1 (saw edge.importer was.0 b was.2 seen) in
      let now = is_held edge.importer slot bound.0 bound.1 in
      (now.0, now.1)

  pub censored_coherent : (left_out : ModuleId → Bool) (target_of : GlobId → Option ModuleId) → IsCoherent (order s) left_out target_of s.content → IsCoherent (order s) left_out target_of shown
  censored_coherent left_out target_of coherent importer name ns b glob target at by known left left' =
      let was = was_held importer (Named name ns) b at in
      let follows = coherent importer name ns was.0 glob target was.1 (sym was.2.import ∙ by) known left left' in
      let now = is_held target (Named name ns) follows.0 follows.1 in (
        now.0,
        now.1,
        elim follows.2 [
          | inl same ↦ inl (now.2.def ∙ same ∙ sym was.2.def)
          | inr hidden ↦ inr (unseen importer follows.0 now.0 now.2 hidden)
        ],
      )

  -- what is seen in the crate alone raises no more than what is public
  lowered_raises : (edge : EdgeTo Visibility) (there : Visibility) (was b : Binding Visibility) → was.vis ≡ Public → b.vis ≡ PubCrate → rises_to (order s) there (carried (order s) edge was).vis ≡ false → rises_to (order s) there (carried (order s) edge b).vis ≡ false
  lowered_raises edge there was b public lowered before =
      let first : rises_to (order s) there (carried (order s) edge (record was { vis = Public })).vis ≡ false = subst (λ v. rises_to (order s) there (carried (order s) edge (record was { vis = v })).vis ≡ false) public before in
      subst (λ v. rises_to (order s) there (carried (order s) edge (record b { vis = v })).vis ≡ false) (sym lowered) (by edge.vis there first)
    where
      Carried : Visibility → Visibility → Visibility
      Carried vis v = (carried (order s) (record edge { vis = vis }) (record was { vis = v })).vis

      by : (vis there : Visibility) → rises_to (order s) there (Carried vis Public) ≡ false → rises_to (order s) there (Carried vis PubCrate) ≡ false
      by (Module m) there is = is
      by PubCrate there is = is
      by Public (Module m) is = absurd (cc is)
      by Public PubCrate is = absurd (cc is)
      by Public Public is = refl

  pub censored_raised : (importer : ModuleId) (slot : Slot) → is_censored s importer ≡ false → IsRaisedAt (order s) s.content importer slot → IsRaisedAt (order s) shown importer slot
  censored_raised importer slot other raised source index edge at to b there glob holds seen stands by def =
      let was = was_held source slot b holds in
      let elsewhere : is_censored s edge.importer ≡ false = subst (λ m. is_censored s m ≡ false) (sym to) other in
      let before = raised source index edge at to was.0 there glob was.1 (saw edge.importer was.0 b was.2 seen) (sym (held_same edge.importer slot elsewhere) ∙ stands) by (def ∙ was.2.def) in
      elim was.2.vis [
        | inl same ↦ subst (λ v. rises_to (order s) there.vis (carried (order s) edge (record b { vis = v })).vis ≡ false) (sym same) before
        | inr lowered ↦ lowered_raises edge there.vis was.0 b lowered.0 lowered.1 before
      ]
