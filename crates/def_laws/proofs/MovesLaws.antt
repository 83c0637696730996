-- The steps of a run, by what they do to the table of bindings.
use Rattle.std.proofs.Common.{◌≡◌, ◌⊎◌, ℕ, Bool, true, false, Option, Some, None, List, [], ◌∷◌, ◌++◌, refl, ap, subst, ◌∙◌, inl, inr}
use Rattle.std.specs.Prelude.{IsPermutation}
use Rattle.std.specs.Option.{option_map_or}
use Rattle.std.proofs.lemmas.Bool.{and_parts}
use Rattle.tree_ids.specs.declared.name.Name.{Name}
use Rattle.def_ids.specs.declared.ids.Def.TheVariants as def
use Rattle.def_ids.specs.declared.ids.FunctionId.{FunctionId}
use Rattle.def_ids.specs.declared.ids.ModuleId.{ModuleId}
use Rattle.def_bindings.specs.declared.bindings.Binding.{Binding}
use Rattle.def_bindings.specs.declared.bindings.EdgeTo.{EdgeTo}
use Rattle.def_bindings.specs.declared.bindings.Entry.{Entry}
use Rattle.def_bindings.specs.declared.bindings.Namespace.TheVariants.{Values}
use Rattle.def_bindings.specs.declared.visibility.Visibility.{Visibility}
use Rattle.def_bindings.specs.Content.{Content, without_binding}
use Rattle.def_oracle.specs.Oracle.{Oracle}
use Rattle.def_globs.specs.Globs.{with_recorded}
use Rattle.def_rules.specs.declared.inner_calls.InnerCall.{InnerCall}
use Rattle.def_rules.specs.Calls.{inner_recorded}
use Rattle.def_rules.specs.Recording.{ImportStep}
use Rattle.def_rules.specs.ProcMacros.{is_function, taken_out, takes_out}
use Rattle.def_rules.specs.Targets.{leaves_out}
use Rattle.def_rules.specs.State.{State, Effect, Moment, Rearranges, Task, Enter, Visit, TryDerive, Put, Bring, AddEdge, TakeOut, TookOut, after, noting, only, order, with_content, with_state}
use Rattle.def_rules.specs.Waiting.{Deferrals, Expansion, MacroDirective}
use Rattle.def_rules.specs.Steps.{Copies, Does, Step, performs, copies, rearranges, records, asks, notes, expands, falls_back, put_effect, reorders}
use Rattle.def_laws.specs.Depths.{WaitsIn}
use Rattle.def_laws.specs.Own.{IsOwn, Stands}
use Rattle.def_laws.specs.Roles.{is_still, place_of, role_of}
use Rattle.def_laws.proofs.FootprintLaws.{Footprint, VisitFootprint, bring_footprint, enter_footprint, still_footprint, visits_footprint}
use Rattle.def_laws.proofs.TakenLaws.{is_that_function}
use Rattle.def_laws.proofs.TurnsLaws.{TryFootprint, TurnFootprint, asks_footprint, expands_footprint, falls_footprint, tries_footprint, waiting_with}

-- tasks that put no entry and add no edge
abbrev pub AreStill : List Task → Type 0
AreStill [] = Unit {0}
AreStill (task ∷ tasks) = (is_still (role_of task) ≡ true) × AreStill tasks

-- a step, by what it does to the table
pub data Move (oracle : Oracle) (a b : Moment) : Type 0 where
  -- an entry is put
  putting : (at : ModuleId) (entry : Entry Visibility) (rest : List Task) → a.tasks ≡ Put at entry ∷ rest → b ≡ after a rest (put_effect a.state at entry) → Move oracle a b
  -- an edge is added
  linking : (source : ModuleId) (edge : EdgeTo Visibility) (rest : List Task) → a.tasks ≡ AddEdge source edge ∷ rest
      → b ≡ after a rest (only (with_content a.state (with_recorded (order a.state) a.state.content source edge))) → Move oracle a b
  -- the function of a procedural macro is taken out of the values of a module that is left out
  taking : (at : ModuleId) (name : Name) (function : FunctionId) (rest : List Task) (held : Binding Visibility) → a.tasks ≡ TakeOut at name function ∷ rest → leaves_out a.state at ≡ true
      → a.state.content.binding at name Values ≡ Some held → held.def ≡ def.Function function
      → b ≡ after a rest (noting (TookOut at name function) (only (with_content a.state (without_binding a.state.content at name Values)))) → Move oracle a b
  -- something else is done in a module, for which these tasks go, and of what waits some may go or join: each waits where something waited, or in that module
  doing : (gone rest : List Task) (scope : ModuleId) (depth : ℕ) (macros : List MacroDirective) (expansions : List Expansion) (deferred : Deferrals) (inner : List InnerCall) (effect : Effect) → a.tasks ≡ gone ++ rest → AreStill gone
      → (Stands a.tasks a.state → IsOwn a.state.map scope) → ((at : ModuleId) → WaitsIn (waiting_with a.state macros expansions deferred inner) at → WaitsIn a.state at ⊎ (at ≡ scope))
      → Footprint (waiting_with a.state macros expansions deferred inner) scope depth effect → b ≡ after a rest effect → Move oracle a b
  -- calls are recorded that were made for arguments
  calling : a.tasks ≡ [] → b ≡ after a [] (only (inner_recorded a.state)) → Move oracle a b
  -- something is copied
  copying : (content : Content Visibility) → Copies a.state content → b ≡ with_state a (with_content a.state content) → Move oracle a b
  -- macros that wait are put into another order
  ordering : (macros : List MacroDirective) → IsPermutation a.state.macros macros → b ≡ with_state a (record a.state { macros = macros }) → Move oracle a b
  -- so are imports
  sorting : (state : State) → Rearranges a.state state → b ≡ with_state a state → Move oracle a b
  -- an import is recorded
  recording : (effect : Effect) → a.tasks ≡ [] → ImportStep oracle a.state effect → b ≡ after a [] effect → Move oracle a b

-- the first task is of the map
first_own : (a : Moment) (task : Task) (rest : List Task) → a.tasks ≡ task ∷ rest → Stands a.tasks a.state → IsOwn a.state.map (place_of task)
first_own a task rest first st = (subst (λ tasks. Stands tasks a.state) first st).tasks.0.0

module _ {oracle : Oracle} (a b : Moment) where
  module _ (at : ModuleId) (name : Name) (function : FunctionId) (rest : List Task) (first : a.tasks ≡ TakeOut at name function ∷ rest) where
    -- it is bound
    take_held : leaves_out a.state at ≡ true → (found : Option (Binding Visibility)) → a.state.content.binding at name Values ≡ found → option_map_or (λ (held : Binding Visibility). is_function function held.def) found false ≡ true
        → b ≡ after a rest (taken_out a.state at name function true) → Move oracle a b
    take_held out None there test is = absurd (cc test)
    take_held out (Some held) there test is = taking at name function rest held first out there (is_that_function function held.def test) is

    -- it is taken out, or not there
    take_by : (takes : Bool) → takes_out a.state at name function ≡ takes → b ≡ after a rest (taken_out a.state at name function takes) → Move oracle a b
    take_by true test is = let both = and_parts (leaves_out a.state at) _ test in take_held both.0 (a.state.content.binding at name Values) refl both.1 is
    take_by false test is =
        doing (TakeOut at name function ∷ []) rest at 0 a.state.macros a.state.expansions a.state.deferred a.state.inner_calls (only a.state) first (refl, tt) (first_own a (TakeOut at name function) rest first) (λ m waits. inl waits) (still_footprint a.state at 0) is

  move_by : (task : Task) (rest : List Task) (effect : Effect) → a.tasks ≡ task ∷ rest → Does oracle a.state task effect → b ≡ after a rest effect → Move oracle a b
  move_by (Put at entry) rest effect first does is = putting at entry rest first (is ∙ ap (after a rest) does)
  move_by (AddEdge source edge) rest effect first does is = linking source edge rest first (is ∙ ap (after a rest) does)
  move_by (TakeOut at name function) rest effect first does is = take_by at name function rest first (takes_out a.state at name function) refl (is ∙ ap (after a rest) does)
  move_by (Enter at directory) rest effect first does is =
      doing (Enter at directory ∷ []) rest at 0 a.state.macros a.state.expansions a.state.deferred a.state.inner_calls _ first (refl, tt) (first_own a (Enter at directory) rest first) (λ at waits. inl waits) (enter_footprint a.state at directory) (is ∙ ap (after a rest) does)
  move_by (Bring from into) rest effect first does is =
      doing (Bring from into ∷ []) rest into 0 a.state.macros a.state.expansions a.state.deferred a.state.inner_calls _ first (refl, tt) (first_own a (Bring from into) rest first) (λ at waits. inl waits) (bring_footprint a.state from into) (is ∙ ap (after a rest) does)
  move_by (Visit site id) rest effect first does is =
      let visit : VisitFootprint a.state site effect = visits_footprint oracle a.state site id effect does in
      doing (Visit site id ∷ []) rest site.scope site.depth a.state.macros a.state.expansions visit.deferred a.state.inner_calls effect first (refl, tt) (first_own a (Visit site id) rest first)
      (λ at waits. inl (elim waits [ inl macro ↦ inl macro | inr later ↦ elim later [ inl expansion ↦ inr (inl expansion) | inr deferred ↦ inr (inr (visit.fewer at deferred)) ] ])) visit.foot is
  move_by (TryDerive directive written) rest effect first does is =
      let tried : TryFootprint a.state directive.scope effect = tries_footprint oracle a.state directive written effect does in
      doing (TryDerive directive written ∷ []) rest directive.scope directive.depth tried.macros tried.expansions tried.deferred a.state.inner_calls effect first (refl, tt) (first_own a (TryDerive directive written) rest first) tried.fewer (tried.foot directive.depth) is

  -- a macro or an expansion has its turn
  turning : (effect : Effect) → a.tasks ≡ [] → TurnFootprint a.state effect → b ≡ after a [] effect → Move oracle a b
  turning effect idle turn is = doing [] [] turn.scope turn.depth turn.macros turn.expansions turn.deferred turn.inner effect idle tt (λ stands. stands.waiting turn.scope turn.waits) (λ at waits. inl (turn.fewer at waits)) turn.foot is

  -- what a step does
  pub move_of : Step oracle a b → Move oracle a b
  move_of (performs task rest effect first does is) = move_by task rest effect first does is
  move_of (copies content copy is) = copying content copy is
  move_of (reorders macros same is) = ordering macros same is
  move_of (rearranges state same is) = sorting state same is
  move_of (records effect idle step is) = recording effect idle step is
  move_of (asks effect idle step is) = turning effect idle (asks_footprint oracle a.state effect step) is
  move_of (notes idle is) = calling idle is
  move_of (expands effect idle step is) = turning effect idle (expands_footprint oracle a.state effect step) is
  move_of (falls_back effect idle step is) = turning effect idle (falls_footprint oracle a.state effect step) is
