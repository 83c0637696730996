-- No name is marked as failed along a run.
use Rattle.std.proofs.Common.{sym, subst}
use Rattle.def_oracle.specs.Oracle.{Oracle}
use Rattle.def_rules.specs.State.{State, Effect, Moment}
use Rattle.def_rules.specs.Steps.{Reaches}
use Rattle.def_laws.specs.Finished.{NoneFailed}
use Rattle.def_laws.proofs.CleanLaws.{none_failed-inner}
use Rattle.def_laws.proofs.MovesLaws.{Move, putting, linking, taking, doing, calling, copying, ordering, sorting, recording, move_of}
use Rattle.def_laws.proofs.RunsLaws.{kept_along}

-- no name failed at a moment
abbrev IsUnmarked : Moment → Type 0
IsUnmarked m = NoneFailed m.state.map

move_unmarked : {oracle : Oracle} (a b : Moment) → Move oracle a b → IsUnmarked a → IsUnmarked b
move_unmarked a b (putting at entry rest first is) none = subst IsUnmarked (sym is) none
move_unmarked a b (linking source edge rest first is) none = subst IsUnmarked (sym is) none
move_unmarked a b (taking at name function rest held first out there of is) none = subst IsUnmarked (sym is) none
move_unmarked a b (doing gone rest scope depth macros expansions deferred inner effect first still own fewer foot is) none = subst IsUnmarked (sym is) (foot.none_failed none)
move_unmarked a b (calling idle is) none = subst IsUnmarked (sym is) (none_failed-inner a.state.inner_calls a.state.map none)
move_unmarked a b (copying content copy is) none = subst IsUnmarked (sym is) none
move_unmarked a b (ordering macros same is) none = subst IsUnmarked (sym is) none
move_unmarked a b (sorting state same is) none = subst IsUnmarked (sym is) (subst (λ (s : State). NoneFailed s.map) (sym same.rest) none)
move_unmarked a b (recording effect idle step is) none = subst IsUnmarked (sym is) (subst (λ (e : Effect). NoneFailed e.state.map) (sym step.is) none)

-- no name is marked as failed along a run
pub none_failed_along : {oracle : Oracle} {a b : Moment} → Reaches oracle a b → NoneFailed a.state.map → NoneFailed b.state.map
none_failed_along {oracle} r none = kept_along {oracle = oracle} IsUnmarked (λ a b step. move_unmarked a b (move_of a b step)) r none
