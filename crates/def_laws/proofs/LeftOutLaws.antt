-- Which modules are left out stays along runs: a crate's kind is known at the start.
use Rattle.std.proofs.Common.{◌≡◌, ◌∙◌, ℕ, ◌&&◌, not, is_some, refl, sym, ap, subst}
use Rattle.def_ids.specs.declared.ids.ModuleId.{ModuleId}
use Rattle.def_ids.specs.Ids.{is_same_module}
use Rattle.def_oracle.specs.Oracle.{Oracle}
use Rattle.def_rules.specs.Recording.{ImportStep}
use Rattle.def_rules.specs.State.{State, Effect, Moment}
use Rattle.def_rules.specs.Steps.{Reaches, Step}
use Rattle.def_rules.specs.Targets.{is_censored, leaves_out}
use Rattle.def_laws.proofs.FootprintLaws.{Footprint}
use Rattle.def_laws.proofs.LargerLaws.{larger_inner}
use Rattle.def_laws.proofs.MovesLaws.{Move, putting, linking, taking, doing, calling, copying, ordering, sorting, recording, move_of}
use Rattle.def_laws.proofs.RunsLaws.{along}

-- the same modules are left out in two states, and the same ones censored
pub record LeavesAlike (s t : State) : Type 0 where
  pub is_proc_macro : t.is_proc_macro ≡ s.is_proc_macro
  pub id : t.map.id ≡ s.map.id

pub censors_alike : {s t : State} → LeavesAlike s t → (m : ModuleId) → is_censored t m ≡ is_censored s m
censors_alike {s} {t} alike m = λ i. alike.is_proc_macro i && is_same_module (record { map = alike.id i; index = 0 }) m

pub leaves_alike : {s t : State} → LeavesAlike s t → (m : ModuleId) → leaves_out t m ≡ leaves_out s m
leaves_alike {s} {t} alike m = λ i. (alike.is_proc_macro i && is_same_module (record { map = alike.id i; index = 0 }) m) && not (is_some (alike.id i).block)

-- the functions that say so are the same
pub leaves_same : {s t : State} → LeavesAlike s t → leaves_out t ≡ leaves_out s
leaves_same {s} {t} alike = λ i m. leaves_alike alike m i

pub alike_refl : (s : State) → LeavesAlike s s
alike_refl s = record { is_proc_macro = refl; id = refl }

pub footprint_alike : (s : State) (scope : ModuleId) (depth : ℕ) (effect : Effect) → Footprint s scope depth effect → LeavesAlike s effect.state
footprint_alike s scope depth effect foot = record { is_proc_macro = foot.queued.is_proc_macro; id = foot.larger.id }

pub import_alike : (oracle : Oracle) (s : State) (effect : Effect) → ImportStep oracle s effect → LeavesAlike s effect.state
import_alike oracle s effect step = subst (λ (e : Effect). LeavesAlike s e.state) (sym step.is) (record { is_proc_macro = refl; id = refl })

pub move_alike : {oracle : Oracle} (a b : Moment) → Move oracle a b → LeavesAlike a.state b.state
move_alike a b (putting at entry rest first is) = subst (λ (m : Moment). LeavesAlike a.state m.state) (sym is) (record { is_proc_macro = refl; id = refl })
move_alike a b (linking source edge rest first is) = subst (λ (m : Moment). LeavesAlike a.state m.state) (sym is) (record { is_proc_macro = refl; id = refl })
move_alike a b (taking at name function rest held first out there of is) = subst (λ (m : Moment). LeavesAlike a.state m.state) (sym is) (record { is_proc_macro = refl; id = refl })
move_alike a b (doing gone rest scope depth macros expansions deferred inner effect first still own fewer foot is) =
    let alike = footprint_alike _ scope depth effect foot in subst (λ (m : Moment). LeavesAlike a.state m.state) (sym is) (record { is_proc_macro = alike.is_proc_macro; id = alike.id })
move_alike a b (calling idle is) = subst (λ (m : Moment). LeavesAlike a.state m.state) (sym is) (record { is_proc_macro = refl; id = (larger_inner a.state.inner_calls a.state.map).id })
move_alike a b (copying content copy is) = subst (λ (m : Moment). LeavesAlike a.state m.state) (sym is) (record { is_proc_macro = refl; id = refl })
move_alike a b (ordering macros same is) = subst (λ (m : Moment). LeavesAlike a.state m.state) (sym is) (record { is_proc_macro = refl; id = refl })
move_alike a b (sorting state same is) = subst (λ (m : Moment). LeavesAlike a.state m.state) (sym is) (subst (LeavesAlike a.state) (sym same.rest) (record { is_proc_macro = refl; id = refl }))
move_alike {oracle} a b (recording effect idle step is) = subst (λ (m : Moment). LeavesAlike a.state m.state) (sym is) (import_alike oracle a.state effect step)

-- along any run the same modules are left out
pub left_out_along : {oracle : Oracle} {a b : Moment} → Reaches oracle a b → LeavesAlike a.state b.state
left_out_along {oracle} r =
    along {oracle = oracle} (λ a b. LeavesAlike a.state b.state) (λ a. alike_refl a.state) (λ a b step. move_alike a b (move_of a b step))
    (λ a b c p q. record { is_proc_macro = q.is_proc_macro ∙ p.is_proc_macro; id = q.id ∙ p.id }) r
