-- Macros that leave in turn: what leaves in a run, and runs in a row.
use Rattle.std.proofs.Common.{List, [], ◌∷◌, Contains, refl}
use Rattle.def_oracle.specs.Oracle.{Oracle}
use Rattle.def_globs.proofs.ListLaws.{none_in}
use Rattle.def_rules.specs.Fallback.{IsQuiet}
use Rattle.def_rules.specs.InTurn.{AllLeaveOf, LeavesOf, empty, part, parts}
use Rattle.def_rules.specs.State.{Moment, State, Task}
use Rattle.def_rules.specs.Steps.{Reaches, Step, asks, copies, expands, falls_back, here, join, notes, one, performs, rearranges, records, reorders}
use Rattle.def_rules.specs.Waiting.{MacroDirective}
use Rattle.def_laws.specs.Runs.{Collects, CollectsCalmly, LeaveInTurn, LeaveOf}
use Rattle.def_laws.proofs.StepsLaws.{collects_trans, leave_trans}

module _ {oracle : Oracle} where
  -- what leaves is among more, where it is among these
  module _ (few many : List MacroDirective) (more : (d : MacroDirective) → Contains few d → Contains many d) where
    more_leave_in : {a b : Moment} (step : Step oracle a b) → LeavesOf few step → LeavesOf many step
    more_leave_in (asks effect idle turn is) leave = λ leaves. more turn.directive (leave leaves)
    more_leave_in (performs task rest effect first does is) leave = tt
    more_leave_in (copies content copy is) leave = tt
    more_leave_in (reorders macros same is) leave = tt
    more_leave_in (rearranges state same is) leave = tt
    more_leave_in (records effect idle step is) leave = tt
    more_leave_in (notes idle is) leave = tt
    more_leave_in (expands effect idle step is) leave = tt
    more_leave_in (falls_back effect idle step is) leave = tt

    pub more_leave : {a b : Moment} (run : Reaches oracle a b) → AllLeaveOf few run → AllLeaveOf many run
    more_leave here leave = tt
    more_leave (one step) leave = more_leave_in step leave
    more_leave (join first second) leave = (more_leave first leave.0, more_leave second leave.1)

  -- where none leaves, no other does
  pub calm_leave : (waited : List MacroDirective) {tasks tasks' : List Task} {s t : State} (run : CollectsCalmly oracle tasks s tasks' t) → LeaveOf waited run.collects.runs
  calm_leave waited run = λ before. more_leave [] waited (λ d there. absurd (none_in d there)) (run.collects.runs before).1 (run.calm before)

  -- and where none leaves behind a run
  pub leave_on : (waited : List MacroDirective) {ts us vs : List Task} {s t u : State} (run : Collects oracle ts s us t) (more : CollectsCalmly oracle us t vs u) → LeaveOf waited run.runs → LeaveOf waited (collects_trans run more.collects).runs
  leave_on waited run more leave = leave_trans waited run more.collects leave (calm_leave waited more)

  -- A run in parts

  -- one in which no macro leaves
  pub turn_empty : {tasks tasks' : List Task} {s t : State} (run : CollectsCalmly oracle tasks s tasks' t) → LeaveInTurn run.collects.runs
  turn_empty run = λ before. empty (run.collects.runs before).1 (run.calm before)

  -- one that begins where nothing moves but macros
  pub turn_part : {s t : State} {tasks : List Task} (run : Collects oracle [] s tasks t) → IsQuiet oracle s → LeaveOf s.macros run.runs → LeaveInTurn run.runs
  turn_part run quiet leave = λ before. part (run.runs before).1 refl quiet (leave before)

  -- and one behind another
  pub turn_both : {ts us vs : List Task} {s t u : State} (first : Collects oracle ts s us t) (second : Collects oracle us t vs u) → LeaveInTurn first.runs → LeaveInTurn second.runs → LeaveInTurn (collects_trans first second).runs
  unfolding collects_trans
  turn_both first second turns more = λ before. parts (turns before) (more (first.runs before).0)
