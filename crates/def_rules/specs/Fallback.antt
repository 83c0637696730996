-- Fallback: where a run is stuck, an attribute whose macro is not found is given up.
use Rattle.std.specs.Prelude.{◌≡◌, List, [], ◌∷◌, ◌++◌}
use Rattle.def_oracle.specs.Oracle.{Oracle}
use Rattle.def_bindings.specs.Closure.{IsClosed}
use Rattle.def_rules.specs.declared.diagnostics.DefDiagnostic.{DefDiagnostic}
use Rattle.def_rules.specs.declared.diagnostics.DefDiagnosticKind.TheVariants.{UnresolvedMacroCall}
use Rattle.def_rules.specs.declared.outcome.LeftMacroKind.TheVariants.{Attr as LeftAttr}
use Rattle.def_rules.specs.Directives.{AllStay, WalksItem, turn_effect}
use Rattle.def_rules.specs.Recording.{NoneReady}
use Rattle.def_rules.specs.State.{State, Effect, IsBare, order, reported}
use Rattle.def_rules.specs.Targets.{leaves_out}
use Rattle.def_rules.specs.Waiting.{Attr, MacroDirective, WrittenAttr}

-- nothing moves but macros that wait: what is bound has travelled along the globs, no import is ready, no call is left to be recorded, and no expansion to be walked
pub record IsQuiet (oracle : Oracle) (s : State) : Type 0 where
  pub closed : IsClosed (order s) (leaves_out s) s.content
  pub imports : NoneReady oracle s
  pub bare : IsBare s

-- nor do these: each macro that waits stays
pub record IsStuck (oracle : Oracle) (s : State) : Type 0 where
  pub quiet : IsQuiet oracle s
  pub macros : AllStay oracle s

-- the diagnostic on an attribute whose macro is not found
abbrev pub attr_diagnostic : MacroDirective → WrittenAttr → DefDiagnostic
attr_diagnostic directive written = record { «module» = directive.scope; ast_id = directive.position; kind = UnresolvedMacroCall (LeftAttr written.id) written.attr.path }

-- the state in which it joins
abbrev pub attr_reported : State → MacroDirective → WrittenAttr → State
attr_reported s directive written = reported s (attr_diagnostic directive written)

-- an item that waits is given up: its attribute is reported, and it is walked without it
abbrev pub given_up : State → List MacroDirective → MacroDirective → List MacroDirective → WrittenAttr → Effect
given_up s before directive behind written = turn_effect (attr_reported s directive written) before directive behind (WalksItem [] written)

-- only where a state is stuck, one that waits for an attribute is given up
pub record FallbackStep (oracle : Oracle) (s : State) (effect : Effect) : Type 0 where
  pub before : List MacroDirective
  pub directive : MacroDirective
  pub behind : List MacroDirective
  pub written : WrittenAttr
  pub stands : s.macros ≡ before ++ directive ∷ behind
  pub is_attr : directive.kind ≡ Attr written
  pub stuck : IsStuck oracle s
  pub is : effect ≡ given_up s before directive behind written
