-- What is answered at the end.
use Rattle.std.specs.Prelude.{◌≡◌, Bool, false, All, Contains}
use Rattle.tree_ids.specs.declared.name.Name.{Name}
use Rattle.def_modules.specs.MapState.{MapState}
use Rattle.def_oracle.specs.Oracle.{Oracle}
use Rattle.def_rules.specs.Directives.{AllStay}
use Rattle.def_rules.specs.Imports.{unresolved_imports}
use Rattle.def_rules.specs.Recording.{NoneReady}
use Rattle.def_rules.specs.Settled.{IsNoAttribute}
use Rattle.def_rules.specs.State.{State}
use Rattle.def_rules.specs.Report.{Answer, marked, IsOutcome, with_import_reports}
use Rattle.def_rules.specs.Waiting.{MacroDirective}

-- no name is marked as failed
abbrev pub NoneFailed : MapState → Type 0
NoneFailed m = All (λ d. (name : Name) → d.failed name ≡ false) m.modules

-- no import is ready, each macro that waits stays, and none waits for an attribute, so that a run that ends here is settled
pub record IsAtRest (oracle : Oracle) (end : State) : Type 0 where
  pub imports : NoneReady oracle end
  pub macros : AllStay oracle end
  pub attributes : (directive : MacroDirective) → Contains end.macros directive → IsNoAttribute directive.kind

-- what is answered of this state: failed names are marked, what is left over is answered and whether the limit of rounds was met, and the imports left over are reported
pub record IsFinished (end : State) (limit_met : Bool) (answer : Answer) : Type 0 where
  pub map : NoneFailed end.map → answer.map ≡ marked end.map (unresolved_imports end.imports)
  pub content : answer.content ≡ end.content
  pub local : answer.local ≡ end.local
  pub outcome : IsOutcome end answer.outcome
  pub limit : answer.outcome.limit_met ≡ limit_met
  pub reported : answer.diagnostics ≡ with_import_reports end
