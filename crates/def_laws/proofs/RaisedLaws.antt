-- Places stay raised where a map grows, if the visibilities that stand near them compare as before.
use Rattle.std.proofs.Common.{◌≡◌, ◌⊎◌, Bool, true, false, not, ◌&&◌, if◌then◌else◌, List, Some, None, refl, sym, ap, subst, ◌∙◌, inl, inr}
use Rattle.std.specs.Prelude.{unwrap_or}
use Rattle.def_ids.specs.declared.ids.ModuleId.{ModuleId}
use Rattle.def_bindings.specs.declared.bindings.Slot.{Slot}
use Rattle.def_bindings.specs.declared.visibility.Visibility.{Visibility}
use Rattle.def_bindings.specs.Content.{Content}
use Rattle.def_bindings.specs.Order.{lesser_of, rises_to}
use Rattle.def_bindings.specs.Puts.{carried, held}
use Rattle.def_modules.specs.MapState.{MapState}
use Rattle.def_globs.specs.Raised.{IsRaisedAt}
use Rattle.def_rules.specs.Globs.{Targets}
use Rattle.def_rules.specs.State.{ImportDirective}
use Rattle.def_rules.specs.Steps.{StandsNear, bound as is_bound, linked, carried as is_carried}
use Rattle.def_laws.specs.Own.{AreOwn}
use Rattle.def_laws.specs.Sound.{order_in}
use Rattle.def_laws.proofs.SoundLaws.{IsLarger, sees_larger}

module _ (at_most at_most' : Visibility → Visibility → Bool) where
  -- the lesser of two that compare as before
  lesser_same : (v w : Visibility) → at_most' v w ≡ at_most v w → at_most' w v ≡ at_most w v → lesser_of at_most' v w ≡ lesser_of at_most v w
  lesser_same v w there back =
      ap (λ b. if b then Some v else (if at_most' w v then Some w else None)) there ∙ ap (λ b. if at_most v w then Some v else (if b then Some w else None)) back

  -- it is one of both
  lesser_is : (v w : Visibility) (there back : Bool) → (unwrap_or (if there then Some v else (if back then Some w else None)) w ≡ v) ⊎ (unwrap_or (if there then Some v else (if back then Some w else None)) w ≡ w)
  lesser_is v w true back = inl refl
  lesser_is v w false true = inr refl
  lesser_is v w false false = inr refl

  -- what compares as before rises as before
  rises_same : (v w : Visibility) → at_most' v w ≡ at_most v w → at_most' w v ≡ at_most w v → (at_most' v w && not (at_most' w v)) ≡ (at_most v w && not (at_most w v))
  rises_same v w there back = ap (λ b. b && not (at_most' w v)) there ∙ ap (λ b. at_most v w && not b) back

module _ {m : MapState} {targets : Targets} {c : Content Visibility} {directives : List ImportDirective} (own : AreOwn m targets c directives) {m' : MapState} (larger : IsLarger m m') (importer : ModuleId) (slot : Slot)
    (same : (v w : Visibility) → StandsNear c importer slot v → StandsNear c importer slot w → (order_in m').at_most v w ≡ (order_in m).at_most v w) where
  -- a place stays raised
  pub raised_larger : IsRaisedAt (order_in m) c importer slot → IsRaisedAt (order_in m') c importer slot
  raised_larger raised source index edge at to b there glob holds seen stands by def =
      let near_b : StandsNear c importer slot b.vis = is_carried source index edge b at to holds refl in
      let near_edge : StandsNear c importer slot edge.vis = linked source index edge at to refl in
      let near_there : StandsNear c importer slot there.vis = is_bound there (subst (λ x. held c x slot ≡ Some there) to stands) refl in
      let vis : (carried (order_in m') edge b).vis ≡ (carried (order_in m) edge b).vis =
      ap (λ o. unwrap_or o edge.vis) (lesser_same (order_in m).at_most (order_in m').at_most b.vis edge.vis (same b.vis edge.vis near_b near_edge) (same edge.vis b.vis near_edge near_b)) in
      let near : StandsNear c importer slot (carried (order_in m) edge b).vis =
      elim (lesser_is (order_in m).at_most (order_in m').at_most b.vis edge.vis ((order_in m).at_most b.vis edge.vis) ((order_in m).at_most edge.vis b.vis)) [
        | inl first ↦ subst (StandsNear c importer slot) (sym first) near_b
        | inr second ↦ subst (StandsNear c importer slot) (sym second) near_edge
      ] in
      let before = raised source index edge at to b there glob holds (sym (sees_larger m m' own.lower larger edge.importer b.vis (own.edges source index edge at).0) ∙ seen) stands by def in
      ap (λ v. rises_to (order_in m') there.vis v) vis
      ∙ rises_same (order_in m).at_most (order_in m').at_most there.vis (carried (order_in m) edge b).vis (same there.vis (carried (order_in m) edge b).vis near_there near) (same (carried (order_in m) edge b).vis there.vis near near_there)
      ∙ before
