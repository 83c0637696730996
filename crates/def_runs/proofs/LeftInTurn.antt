-- What it says that macros leave in turn: each that leaves, by being asked, had waited at a moment before, at which nothing moved but macros.
use Rattle.std.proofs.Common.{◌≡◌, ◌⊎◌, inl, inr, List, [], Contains, sym, subst}
use Rattle.std.specs.Prelude.{◌≢◌}
use Rattle.def_globs.proofs.ListLaws.{none_in}
use Rattle.def_interner.specs.Session.{Session}
use Rattle.def_oracle.specs.Oracle.{Oracle}
use Rattle.def_rules.specs.Directives.{Stays, told}
use Rattle.def_rules.specs.Fallback.{IsQuiet}
use Rattle.def_rules.specs.Headline.{Answers}
use Rattle.def_rules.specs.InTurn.{AllLeaveOf, LeavesInTurn, LeavesOf, empty, part, parts}
use Rattle.def_rules.specs.Report.{Answer}
use Rattle.def_rules.specs.Rounds.{Leaves}
use Rattle.def_rules.specs.Start.{start}
use Rattle.def_rules.specs.State.{Moment, Setting}
use Rattle.def_rules.specs.Steps.{Reaches, Step, asks, copies, notes, expands, falls_back, here, join, one, performs, rearranges, records, reorders}
use Rattle.def_rules.specs.Waiting.{MacroDirective}

-- a macro leaves at some step of a run
abbrev pub LeavesAlong : {oracle : Oracle} {a b : Moment} → Reaches oracle a b → MacroDirective → Type 0
LeavesAlong here directive = ⊥
LeavesAlong (one step) directive = Leaves step directive
LeavesAlong (join first second) directive = LeavesAlong first directive ⊎ LeavesAlong second directive

-- a moment of a run at which it waits, and nothing moves but macros
pub record HadWaited (oracle : Oracle) (a b : Moment) (directive : MacroDirective) : Type 0 where
  pub at : Moment
  pub begins : Reaches oracle a at
  pub goes_on : Reaches oracle at b
  pub idle : at.tasks ≡ []
  pub quiet : IsQuiet oracle at.state
  pub waits : Contains at.state.macros directive

module _ {oracle : Oracle} (directive : MacroDirective) where
  -- what leaves in a step is among those that may
  among : {a b : Moment} (waited : List MacroDirective) (step : Step oracle a b) → LeavesOf waited step → Leaves step directive → Contains waited directive
  among {a = a} waited (asks effect idle turn is) leave left = subst (λ d. Contains waited d) left.0 (leave (subst (λ d. (told oracle a.state d).turn ≢ Stays) (sym left.0) left.1))
  among waited (performs task rest effect first does is) leave left = absurd left
  among waited (copies content copy is) leave left = absurd left
  among waited (reorders macros same is) leave left = absurd left
  among waited (rearranges state same is) leave left = absurd left
  among waited (records effect idle step is) leave left = absurd left
  among waited (notes idle is) leave left = absurd left
  among waited (expands effect idle step is) leave left = absurd left
  among waited (falls_back effect idle step is) leave left = absurd left

  -- so it is in a run
  among_along : {a b : Moment} (waited : List MacroDirective) (run : Reaches oracle a b) → AllLeaveOf waited run → LeavesAlong run directive → Contains waited directive
  among_along waited here leave left = absurd left
  among_along waited (one step) leave left = among waited step leave left
  among_along waited (join first second) leave left = elim left [ inl sooner ↦ among_along waited first leave.0 sooner | inr later ↦ among_along waited second leave.1 later ]

  had_waited : {a b : Moment} {run : Reaches oracle a b} → LeavesInTurn oracle a b run → LeavesAlong run directive → HadWaited oracle a b directive
  had_waited (empty run calm) left = absurd (none_in directive (among_along [] run calm left))
  had_waited {a = a} (part run idle quiet leave) left = record { at = a; begins = here; goes_on = run; idle = idle; quiet = quiet; waits = among_along a.state.macros run leave left }
  had_waited (parts {first = first} {second = second} turns more) left = elim left [
    | inl sooner ↦ let was = had_waited turns sooner in record { at = was.at; begins = was.begins; goes_on = join was.goes_on second; idle = was.idle; quiet = was.quiet; waits = was.waits }
    | inr later ↦ let was = had_waited more later in record { at = was.at; begins = join first was.begins; goes_on = was.goes_on; idle = was.idle; quiet = was.quiet; waits = was.waits }
  ]

-- each macro that leaves in the run of an answer had waited at such a moment
pub what_leaves_had_waited : (w : Setting) (before after : Session) (answer : Answer) (answers : Answers w before after answer) (directive : MacroDirective) → LeavesAlong answers.run.runs directive
    → HadWaited w.oracle (start w before) answers.run.end directive
what_leaves_had_waited w before after answer answers directive left = had_waited directive answers.in_turn left
