-- Along any run each unnamed trait of a module stands once.
use Rattle.std.proofs.Common.{◌≡◌, Bool, true, false, cond, [], Option, Some, None, refl, sym, ap, subst}
use Rattle.std.specs.Cmp.{IsEquivalence, nat_eq_equiv}
use Rattle.std.specs.List.{IsDistinct}
use Rattle.std.specs.Map.{keys_of}
use Rattle.indexmap.specs.IndexMap.{insert_entry}
use Rattle.def_ids.specs.declared.ids.ModuleId.{ModuleId}
use Rattle.def_ids.specs.declared.ids.TraitId.{TraitId}
use Rattle.def_ids.specs.Ids.{is_same_module}
use Rattle.def_bindings.specs.declared.bindings.Binding.{Binding}
use Rattle.def_bindings.specs.declared.bindings.EdgeTo.{EdgeTo}
use Rattle.def_bindings.specs.declared.bindings.Entry.{Entry}
use Rattle.def_bindings.specs.declared.bindings.Slot.{Slot}
use Rattle.def_bindings.specs.declared.bindings.Slot.TheVariants.{Named, Unnamed}
use Rattle.def_bindings.specs.declared.visibility.Visibility.{Visibility}
use Rattle.def_bindings.specs.Content.{Content, empty, is_trait, with_unnamed}
use Rattle.def_bindings.specs.Order.{Order}
use Rattle.def_bindings.specs.Puts.{answer, copied, fitted, held, offered, put_at, put_entry, settled, slot_of, written}
use Rattle.def_map.specs.Oracle.{Oracle}
use Rattle.def_rules.specs.State.{State, Effect, Moment, order}
use Rattle.def_rules.specs.Steps.{Copies, Reaches}
use Rattle.def_laws.proofs.DeferredKeysLaws.{inserted_distinct}
use Rattle.def_laws.proofs.MovesLaws.{Move, putting, linking, taking, doing, calling, copying, ordering, sorting, recording, move_of}
use Rattle.def_laws.proofs.RunsLaws.{kept_along}
use Rattle.def_macros.specs.Censored.{ListsOnce}

-- each module's unnamed traits stand once
abbrev AreDistinct : Content Visibility → Type 0
AreDistinct c = (m : ModuleId) → ListsOnce c m

trait_laws : IsEquivalence is_trait
trait_laws = record { refl = λ a. nat_eq_equiv.refl a.0; symm = λ a b. nat_eq_equiv.symm a.0 b.0; congr = λ a b c. nat_eq_equiv.congr a.0 b.0 c.0 }

distinct_unnamed : (c : Content Visibility) (at : ModuleId) (t : TraitId) (vis : Visibility) → AreDistinct c → AreDistinct (with_unnamed c at t vis)
distinct_unnamed c at t vis once m = by (is_same_module at m)
  where
    by : (here : Bool) → IsDistinct is_trait (keys_of (cond here (insert_entry is_trait (c.unnamed at) t vis) (c.unnamed m)))
    by true = inserted_distinct is_trait trait_laws t (c.unnamed at) vis (once at)
    by false = once m

distinct_written : (c : Content Visibility) (at : ModuleId) (slot : Slot) (b : Option (Binding Visibility)) → AreDistinct c → AreDistinct (written c at slot b)
distinct_written c at slot None once = once
distinct_written c at (Named name ns) (Some b) once = once
distinct_written c at (Unnamed t) (Some b) once = distinct_unnamed c at t b.vis once

distinct_put : (o : Order Visibility) (at : ModuleId) (slot : Option Slot) (offer : Binding Visibility) (c : Content Visibility) → AreDistinct c → AreDistinct (put_at o at slot offer c)
distinct_put o at None offer c once = once
distinct_put o at (Some slot) offer c once = distinct_written c at slot (settled o (held c at slot) (fitted slot offer)) once

distinct_copied : (s : State) (content : Content Visibility) → Copies s content → AreDistinct s.content → AreDistinct content
distinct_copied s content copy once =
    subst AreDistinct (sym copy.after) (distinct_written s.content copy.edge.importer copy.slot (answer (order s) copy.edge copy.slot (held s.content copy.source copy.slot) (held s.content copy.edge.importer copy.slot)) once)

abbrev IsDistinctAt : Moment → Type 0
IsDistinctAt m = AreDistinct m.state.content

move_distinct : {oracle : Oracle} (a b : Moment) → Move oracle a b → IsDistinctAt a → IsDistinctAt b
move_distinct a b (putting at entry rest first is) once = subst IsDistinctAt (sym is) (distinct_put (order a.state) at (slot_of entry) (offered entry) a.state.content once)
move_distinct a b (linking source edge rest first is) once = subst IsDistinctAt (sym is) once
move_distinct a b (taking at name function rest there first out bound of is) once = subst IsDistinctAt (sym is) once
move_distinct a b (doing gone rest scope depth macros expansions deferred inner effect first still own fewer foot is) once = subst IsDistinctAt (sym is) (subst AreDistinct (sym foot.content) once)
move_distinct a b (calling idle is) once = subst IsDistinctAt (sym is) once
move_distinct a b (copying content copy is) once = subst IsDistinctAt (sym is) (distinct_copied a.state content copy once)
move_distinct a b (ordering macros same is) once = subst IsDistinctAt (sym is) once
move_distinct a b (sorting state same is) once = subst IsDistinctAt (sym is) (subst (λ (s : State). AreDistinct s.content) (sym same.rest) once)
move_distinct a b (recording effect idle step is) once = subst IsDistinctAt (sym is) (subst (λ (e : Effect). AreDistinct e.state.content) (sym step.is) once)

-- so it is after a run from nothing
pub distinct_along : {oracle : Oracle} {a b : Moment} → Reaches oracle a b → a.state.content ≡ empty → (m : ModuleId) → ListsOnce b.state.content m
unfolding IsDistinct
distinct_along {oracle} {a} {b} r nothing =
    kept_along {oracle = oracle} IsDistinctAt (λ a b step. move_distinct a b (move_of a b step)) r (subst AreDistinct (sym nothing) none_listed)
  where
    none_listed : AreDistinct empty
    none_listed m = tt
