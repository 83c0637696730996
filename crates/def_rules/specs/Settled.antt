-- What holds of a run and of its end.
use Rattle.std.specs.Prelude.{◌≡◌, ◌⊎◌, true, false, List, [], ◌∷◌, ◌++◌, Some, Contains, IsSome}
use Rattle.tree_ids.specs.declared.name.Name.{Name}
use Rattle.def_ids.specs.declared.ids.Def.{Def}
use Rattle.def_ids.specs.declared.ids.Def.TheVariants as def
use Rattle.def_ids.specs.declared.ids.FunctionId.{FunctionId}
use Rattle.def_ids.specs.declared.ids.ModuleId.{ModuleId}
use Rattle.def_bindings.specs.declared.bindings.Binding.{Binding}
use Rattle.def_bindings.specs.declared.bindings.Namespace.{Namespace}
use Rattle.def_bindings.specs.declared.bindings.Namespace.TheVariants.{Values}
use Rattle.def_bindings.specs.declared.visibility.Visibility.{Visibility}
use Rattle.def_bindings.specs.Content.{Content}
use Rattle.def_bindings.specs.Puts.{IsExplicit}
use Rattle.def_oracle.specs.Oracle.{Oracle}
use Rattle.def_sources.specs.PerNs.{in_namespace}
use Rattle.def_rules.specs.State.{State, Import, Event, PutExplicit, Recorded, TookOut, Moment}
use Rattle.def_rules.specs.Targets.{leaves_out}
use Rattle.def_rules.specs.Directives.{AllStay}
use Rattle.def_rules.specs.Imports.{is_missing, answer_now, bound_name, keeps_ns}
use Rattle.def_rules.specs.Recording.{NoneReady}
use Rattle.def_rules.specs.Waiting.{Attr, Derive, FnLike, MacroDirective, MacroDirectiveKind}

-- what waits is not for an attribute's macro
abbrev pub IsNoAttribute : MacroDirectiveKind → Type 0
IsNoAttribute (FnLike written) = Unit {0}
IsNoAttribute (Attr written) = ⊥
IsNoAttribute (Derive written) = Unit {0}

-- no import is ready, each macro that waits stays, which is to say that none is given a call, none waits for an attribute, and no derive is deferred
pub record IsSettled (oracle : Oracle) (end : State) : Type 0 where
  pub imports : NoneReady oracle end
  pub macros : AllStay oracle end
  pub attributes : (directive : MacroDirective) → Contains end.macros directive → IsNoAttribute directive.kind
  -- and no derive is deferred any longer
  pub deferred : end.deferred ≡ []

-- of these events none takes a function out of a place
abbrev pub NoneTakenOut : List Event → ModuleId → Name → Namespace → Type 0
NoneTakenOut events at name ns = ns ≡ Values → (function : FunctionId) → ¬ Contains events (TookOut at name function)

-- each explicit binding that was put, by a declaration, an extern crate or a named import, stands at its place, or one put there before it does;
-- at one that a function was taken out of, each that was put behind the last taking out
abbrev pub IsDeclared : List Event → Content Visibility → Type 0
IsDeclared events content =
    (before after : List Event) (at : ModuleId) (name : Name) (ns : Namespace) (held : Binding Visibility)
    → events ≡ before ++ PutExplicit at name ns held ∷ after → NoneTakenOut after at name ns
    → (stands : Binding Visibility) × (content.binding at name ns ≡ Some stands) × ((stands ≡ held) ⊎ Contains before (PutExplicit at name ns stands))

-- each explicit binding that stands was put
abbrev pub WasPut : List Event → Content Visibility → Type 0
WasPut events content =
    (at : ModuleId) (name : Name) (ns : Namespace) (held : Binding Visibility)
    → content.binding at name ns ≡ Some held → IsExplicit held.import → Contains events (PutExplicit at name ns held)

-- between two moments a definition was taken out of a place in values: the function of a procedural macro, which the root of its crate exports
pub record WasTakenOut (a b : Moment) (at : ModuleId) (name : Name) (ns : Namespace) (d : Def) : Type 0 where
  pub function : FunctionId
  pub is : d ≡ def.Function function
  pub in_values : ns ≡ Values
  pub in_root : leaves_out b.state at ≡ true
  pub events : List Event
  pub later : b.events ≡ a.events ++ events
  pub taken : Contains events (TookOut at name function)

-- an explicit binding stays as it is, or is such a function
abbrev pub ExplicitStays : Moment → Moment → Type 0
ExplicitStays a b =
    (at : ModuleId) (name : Name) (ns : Namespace) (held : Binding Visibility)
    → a.state.content.binding at name ns ≡ Some held → IsExplicit held.import
    → (b.state.content.binding at name ns ≡ Some held) ⊎ WasTakenOut a b at name ns held.def

-- an import was once recorded from another crate
abbrev pub IsForeignImport : List Event → Import → Type 0
IsForeignImport events p = Contains events (Recorded p true)

-- an import that was recorded, always from this crate, and that binds this name; not one in the root of a crate of procedural macros
pub record IsNamedImport (end : Moment) (p : Import) (name : Name) : Type 0 where
  pub recorded : Contains end.events (Recorded p false)
  pub own : ¬ IsForeignImport end.events p
  pub name_bound : bound_name p.written ≡ Some (Some name)
  pub elsewhere : leaves_out end.state p.scope ≡ false

-- each namespace that a recorded named import's path gives, and its kind keeps, is bound at its name
abbrev pub HasEveryNamespace : Oracle → Moment → Type 0
HasEveryNamespace oracle end =
    (p : Import) (name : Name) (ns : Namespace)
    → IsNamedImport end p name → is_missing (answer_now oracle end.state p) ≡ false
    → IsSome (in_namespace (answer_now oracle end.state p).resolved_def ns) → keeps_ns p.written.kind ns ≡ true
    → IsSome (end.state.content.binding p.scope name ns)
