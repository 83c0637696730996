-- Macros that leave in turn: each had waited where its part of the run began, at a moment at which nothing moved but macros.
use Rattle.std.specs.Prelude.{◌≡◌, ◌≢◌, List, [], Contains}
use Rattle.def_oracle.specs.Oracle.{Oracle}
use Rattle.def_rules.specs.Directives.{Stays, told}
use Rattle.def_rules.specs.Fallback.{IsQuiet}
use Rattle.def_rules.specs.State.{Moment}
use Rattle.def_rules.specs.Steps.{Reaches, Step, asks, here, one, join}
use Rattle.def_rules.specs.Waiting.{MacroDirective}

-- a step in which no macro leaves, by being asked, but one of these
abbrev pub LeavesOf : {oracle : Oracle} {a b : Moment} → List MacroDirective → Step oracle a b → Type 0
LeavesOf {oracle = oracle} {a = a} waited (asks effect idle turn is) = (told oracle a.state turn.directive).turn ≢ Stays → Contains waited turn.directive
LeavesOf waited _ = Unit {0}

-- each step of a run is one
abbrev pub AllLeaveOf : {oracle : Oracle} {a b : Moment} → List MacroDirective → Reaches oracle a b → Type 0
AllLeaveOf waited here = Unit {0}
AllLeaveOf waited (one step) = LeavesOf waited step
AllLeaveOf waited (join first second) = AllLeaveOf waited first × AllLeaveOf waited second

-- A run in parts: each is one in which no macro leaves, or begins where nothing moves but macros, and no macro leaves in it but those that waited there.
pub data LeavesInTurn (oracle : Oracle) : (a b : Moment) → Reaches oracle a b → Type 0 where
  empty : {a b : Moment} (run : Reaches oracle a b) → AllLeaveOf [] run → LeavesInTurn oracle a b run
  part : {a b : Moment} (run : Reaches oracle a b) → a.tasks ≡ [] → IsQuiet oracle a.state → AllLeaveOf a.state.macros run → LeavesInTurn oracle a b run
  parts : {a b c : Moment} {first : Reaches oracle a b} {second : Reaches oracle b c} → LeavesInTurn oracle a b first → LeavesInTurn oracle b c second → LeavesInTurn oracle a c (join first second)
