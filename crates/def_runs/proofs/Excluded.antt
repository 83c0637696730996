-- What the definitions exclude: ends, answers and steps that are none.
use Rattle.std.proofs.Common.{◌≡◌, inl, inr, Bool, true, false, Some, None, List, [], ◌∷◌, ◌++◌, map, refl, sym, subst, ap, ◌∙◌, Contains, lit<, append-nil, Option}
use Rattle.std.specs.List.{flat_map}
use Rattle.tree_ids.specs.declared.name.Name.{Name}
use Rattle.tree_ids.specs.declared.ids.FileAstId.{FileAstId}
use Rattle.tree_ids.specs.declared.ids.InFile.{InFile}
use Rattle.tree_ids.specs.declared.ids.MacroCallId.{MacroCallId}
use Rattle.def_ids.specs.declared.ids.GlobId.{GlobId}
use Rattle.def_ids.specs.declared.ids.ModuleId.{ModuleId}
use Rattle.def_interner.specs.Session.{Session}
use Rattle.def_bindings.specs.declared.bindings.Binding.{Binding}
use Rattle.def_bindings.specs.declared.bindings.EdgeTo.{EdgeTo}
use Rattle.def_bindings.specs.declared.bindings.Entry.{Entry}
use Rattle.def_bindings.specs.declared.bindings.Namespace.{Namespace}
use Rattle.def_bindings.specs.declared.bindings.Slot.{Slot}
use Rattle.def_bindings.specs.declared.visibility.Visibility.{Visibility}
use Rattle.def_bindings.specs.Content.{Content}
use Rattle.def_bindings.specs.Order.{Order}
use Rattle.def_bindings.specs.Puts.{IsExplicit, answer as made_of_copy, copied, held, written, glob_of}
use Rattle.def_oracle.specs.Oracle.{Oracle}
use Rattle.def_laws.proofs.FootprintLaws.{visits_footprint}
use Rattle.def_laws.proofs.TurnsLaws.{tries_footprint}
use Rattle.def_laws.proofs.StaysLaws.{explicit_stays_along}
use Rattle.def_rules.specs.declared.deferred.DeferredDerive.{DeferredDerive}
use Rattle.def_rules.specs.declared.diagnostics.DefDiagnostic.{DefDiagnostic}
use Rattle.def_rules.specs.declared.inner_calls.InnerCall.{InnerCall}
use Rattle.def_rules.specs.declared.outcome.LeftImport.{LeftImport}
use Rattle.def_rules.specs.Directives.{ExpansionStep, GivesCall, GivesDerive, WalksItem, told}
use Rattle.def_rules.specs.Headline.{Answers, Run}
use Rattle.def_rules.specs.Imports.{answer_now, is_ready, no_namespaces, unresolved_imports}
use Rattle.def_rules.specs.Recording.{ImportStep}
use Rattle.def_rules.specs.Report.{Answer, import_report, left_import, may_name_crate, report, unresolved, with_macro_reports}
use Rattle.def_ids.specs.declared.ids.FunctionId.{FunctionId}
use Rattle.def_rules.specs.ProcMacros.{taken_out, takes_out}
use Rattle.def_rules.specs.Targets.{leaves_out}
use Rattle.def_rules.specs.State.{Setting, State, Effect, Task, Enter, Visit, Put, Bring, AddEdge, TakeOut, Moment, Import, ImportDirective, Recorded, TryDerive}
use Rattle.def_rules.specs.Waiting.{Deferrals, MacroDirective, WrittenAttr, WrittenDerive}
use Rattle.def_rules.specs.Steps.{Does, Reaches, Step, asks, copies, event_of, notes, expands, performs, rearranges, records, falls_back, reorders}
use Rattle.def_runs.proofs.Plain as plain
use Rattle.def_runs.proofs.RowLemmas.{none_recorded_unready, none_taken}
use Rattle.def_runs.proofs.Rows.{not_recorded}
use Rattle.def_runs.proofs.Sessions.{no_session}

-- Ends

-- no run ends with something left to do
an_end_has_no_task : (w : Setting) (before : Session) (run : Run w before) (task : Task) (rest : List Task) → run.end.tasks ≡ task ∷ rest → ⊥
an_end_has_no_task w before run task rest left = let none = run.done in cc

-- no answer leaves an import over that resolves, nor an indeterminate one that resolves to more
no_import_is_left_that_resolves : (w : Setting) (before after : Session) (answer : Answer) (answers : Answers w before after answer) (unmet : answer.outcome.limit_met ≡ false) (directive : ImportDirective)
    → Contains answers.run.end.state.imports directive → is_ready directive.recorded (answer_now w.oracle answers.run.end.state directive.import) ≡ true → ⊥
no_import_is_left_that_resolves w before after answer answers unmet directive left ready = let not_ready = (answers.settled unmet).imports.none directive left in cc

-- and where an answer ends no import could still be recorded
nothing_is_recorded_at_an_end : (w : Setting) (before after : Session) (answer : Answer) (answers : Answers w before after answer) → answer.outcome.limit_met ≡ false → (effect : Effect) → ImportStep w.oracle answers.run.end.state effect → ⊥
nothing_is_recorded_at_an_end w before after answer answers unmet effect = none_recorded_unready w.oracle answers.run.end.state effect (answers.settled unmet).imports

-- so no answer ends `mod a { pub struct S; } use a::S; use a::T;` where both imports still wait: `a::S` resolves
both_left_is_no_answer : (after : Session) (answer : Answer) (answers : Answers plain.setting no_session after answer) → answer.outcome.limit_met ≡ false → answers.run.end ≡ plain.walked_to → ⊥
both_left_is_no_answer after answer answers unmet early =
    let waits : ImportDirective = not_recorded (plain.waiting 2 0 plain.S) in
    let at_end : is_ready no_namespaces (answer_now plain.setting.oracle plain.walked_to.state (plain.waiting 2 0 plain.S)) ≡ false =
    subst (λ (m : Moment). Contains m.state.imports waits → is_ready no_namespaces (answer_now plain.setting.oracle m.state (plain.waiting 2 0 plain.S)) ≡ false) early
    (λ left. (answers.settled unmet).imports.none waits left) (0, lit< tt, refl) in
    cc

-- no answer leaves a macro over that is given a call
no_macro_is_left_that_is_given_a_call : (w : Setting) (before after : Session) (answer : Answer) (answers : Answers w before after answer) (unmet : answer.outcome.limit_met ≡ false) (directive : MacroDirective) (call : MacroCallId)
    → Contains answers.run.end.state.macros directive → (told w.oracle answers.run.end.state directive).turn ≡ GivesCall call → ⊥
no_macro_is_left_that_is_given_a_call w before after answer answers unmet directive call left given = let stays = (answers.settled unmet).macros.stay directive left in cc

-- nor a derive over whose macro is found
no_derive_is_left_that_is_given_a_call : (w : Setting) (before after : Session) (answer : Answer) (answers : Answers w before after answer) (unmet : answer.outcome.limit_met ≡ false) (directive : MacroDirective) (call : MacroCallId)
    → Contains answers.run.end.state.macros directive → (told w.oracle answers.run.end.state directive).turn ≡ GivesDerive call → ⊥
no_derive_is_left_that_is_given_a_call w before after answer answers unmet directive call left given = let stays = (answers.settled unmet).macros.stay directive left in cc

-- nor an item over that is walked without an attribute
no_item_is_left_that_is_walked : (w : Setting) (before after : Session) (answer : Answer) (answers : Answers w before after answer) (unmet : answer.outcome.limit_met ≡ false) (directive : MacroDirective) (derives : List WrittenDerive) (written : WrittenAttr)
    → Contains answers.run.end.state.macros directive → (told w.oracle answers.run.end.state directive).turn ≡ WalksItem derives written → ⊥
no_item_is_left_that_is_walked w before after answer answers unmet directive derives written left walks = let stays = (answers.settled unmet).macros.stay directive left in cc

-- nor a derive that is still deferred
no_derive_is_left_deferred : (w : Setting) (before after : Session) (answer : Answer) (answers : Answers w before after answer) (unmet : answer.outcome.limit_met ≡ false) (position : InFile FileAstId) (derives : List DeferredDerive) (others : Deferrals)
    → answers.run.end.state.deferred ≡ (position, derives) ∷ others → ⊥
no_derive_is_left_deferred w before after answer answers unmet position derives others left = let none = (answers.settled unmet).deferred in cc

-- nor a call that is still to be recorded
no_call_is_left_unrecorded : (w : Setting) (before : Session) (run : Run w before) (call : InnerCall) (others : List InnerCall) → run.end.state.inner_calls ≡ call ∷ others → ⊥
no_call_is_left_unrecorded w before run call others left = let none = run.bare.inner_calls in cc

-- nor an expansion that is still to be walked or dropped
no_expansion_is_left : (w : Setting) (before after : Session) (answer : Answer) (answers : Answers w before after answer) (effect : Effect) → ExpansionStep w.oracle answers.run.end.state effect → ⊥
no_expansion_is_left w before after answer answers effect = none_taken w.oracle answers.run.end.state effect answers.run.bare.expansions

-- Diagnostics

-- a list is empty only where its end is
no_end : {X : Type 0} (xs ys : List X) → xs ++ ys ≡ [] → ys ≡ []
no_end [] ys h = h
no_end (x ∷ xs) ys h = cc

-- an import that is left over is reported, unless its path may begin with the name of a crate
reports : (missing : Name → Bool) (p : Import) (others : List Import) (before : List DefDiagnostic)
    → may_name_crate p.written.path.kind ≡ false → before ++ flat_map (import_report missing) (p ∷ others) ≡ [] → ⊥
reports missing p others before kind none =
    let rest = no_end before _ none in
    let here : import_report missing p ≡ unresolved p ∷ [] = rw kind refl in
    let all : (unresolved p ∷ []) ++ flat_map (import_report missing) others ≡ [] = subst (λ (l : List DefDiagnostic). l ++ flat_map (import_report missing) others ≡ []) here rest in
    cc

-- an answer that leaves such an import over and reports nothing is none
an_answer_that_drops_a_diagnostic_is_none : (w : Setting) (before after : Session) (answer : Answer) → Answers w before after answer → (left : LeftImport) (others : List LeftImport)
    → answer.outcome.imports.items ≡ left ∷ others → may_name_crate left.path.kind ≡ false → answer.diagnostics ≡ [] → ⊥
an_answer_that_drops_a_diagnostic_is_none w before after answer answers left others listed kind none =
    at (unresolved_imports answers.run.end.state.imports) (sym answers.answered.outcome.imports ∙ listed) (sym answers.reported ∙ none)
  where
    at : (imports : List Import) → map left_import imports ≡ left ∷ others
        → (with_macro_reports w.oracle answers.run.end.state).diagnostics ++ flat_map (import_report answers.run.end.state.missing_crates) imports ≡ [] → ⊥
    at [] shown none = cc
    at (p ∷ ps) shown none =
        let same : left_import p ≡ left = cc in
        reports answers.run.end.state.missing_crates p ps (with_macro_reports w.oracle answers.run.end.state).diagnostics (ap (λ (l : LeftImport). may_name_crate l.path.kind) same ∙ kind) none

-- of the crate above, at the end of its run: `a::T` has to be reported
t_has_to_be_reported : (after : Session) (answer : Answer) (answers : Answers plain.setting no_session after answer) → answers.run.end ≡ plain.last → answer.diagnostics ≡ [] → ⊥
t_has_to_be_reported after answer answers ends none =
    let nothing : report plain.setting.oracle plain.last.state ≡ [] = subst (λ (m : Moment). report plain.setting.oracle m.state ≡ []) ends (sym answers.reported ∙ none) in
    cc

-- Copies

-- what the importer does not see is not copied: nothing changes
unseen_changes_nothing : (o : Order Visibility) (source : ModuleId) (edge : EdgeTo Visibility) (slot : Slot) (c : Content Visibility) (b : Binding Visibility)
    → held c source slot ≡ Some b → o.can_see edge.importer b.vis ≡ false → copied o source edge slot c ≡ c
unseen_changes_nothing o source edge slot c b holds unseen =
    let none : made_of_copy o edge slot (held c source slot) (held c edge.importer slot) ≡ None = rw holds (rw unseen refl) in
    ap (written c edge.importer slot) none

-- so no copy binds it there
an_unseen_binding_does_not_travel : (o : Order Visibility) (source : ModuleId) (edge : EdgeTo Visibility) (slot : Slot) (c : Content Visibility) (b new : Binding Visibility)
    → held c source slot ≡ Some b → o.can_see edge.importer b.vis ≡ false → held c edge.importer slot ≡ None → held (copied o source edge slot c) edge.importer slot ≡ Some new → ⊥
an_unseen_binding_does_not_travel o source edge slot c b new holds unseen free bound =
    let same = ap (λ (d : Content Visibility). held d edge.importer slot) (unseen_changes_nothing o source edge slot c b holds unseen) in
    cc

-- Runs

-- no run takes an explicit binding away, but out of the root of a crate of procedural macros
an_explicit_binding_is_not_taken_away : (oracle : Oracle) (a b : Moment) (at : ModuleId) (name : Name) (ns : Namespace) (there : Binding Visibility)
    → Reaches oracle a b → a.state.content.binding at name ns ≡ Some there → IsExplicit there.import → leaves_out b.state at ≡ false → b.state.content.binding at name ns ≡ None → ⊥
an_explicit_binding_is_not_taken_away oracle a b at name ns there run bound explicit elsewhere gone =
    elim (explicit_stays_along run at name ns there bound explicit) [
      | inl stays ↦ cc
      | inr taken ↦ let wrong : true ≡ false = sym taken.in_root ∙ elsewhere in cc
    ]

-- Turns

-- two ends of one list are equal where the wholes are
same_end : {X : Type 0} (xs ys zs : List X) → xs ++ ys ≡ xs ++ zs → ys ≡ zs
same_end [] ys zs h = h
same_end (x ∷ xs) ys zs h = let rest : xs ++ ys ≡ xs ++ zs = cc in same_end xs ys zs rest

-- a put is no recording
no_recording : (at : ModuleId) (entry : Entry Visibility) (glob : Option GlobId) (name : Option Name) (p : Import) (foreign : Bool) → event_of at entry glob name ≡ Recorded p foreign ∷ [] → ⊥
no_recording at entry None (Some name) p foreign h = cc
no_recording at entry None None p foreign h = cc
no_recording at entry (Some g) name p foreign h = cc

-- nor is a function that is taken out, or one that is not there
take_records_nothing : (s : State) (at : ModuleId) (name : Name) (function : FunctionId) (effect : Effect) (takes : Bool) (p : Import) (foreign : Bool) → effect ≡ taken_out s at name function takes → effect.events ≡ Recorded p foreign ∷ [] → ⊥
take_records_nothing s at name function effect true p foreign does h = let none = ap (λ (e : Effect). e.events) does in cc
take_records_nothing s at name function effect false p foreign does h = let none = ap (λ (e : Effect). e.events) does in cc

-- nor is any other task
task_records_nothing : (oracle : Oracle) (s : State) (task : Task) (effect : Effect) (p : Import) (foreign : Bool) → Does oracle s task effect → effect.events ≡ Recorded p foreign ∷ [] → ⊥
task_records_nothing oracle s (Enter at directory) effect p foreign does h = let none = ap (λ (e : Effect). e.events) does in cc
task_records_nothing oracle s (Visit site id) effect p foreign does h = let none = (visits_footprint oracle s site id effect does).foot.events in cc
task_records_nothing oracle s (Put at entry) effect p foreign does h = no_recording at entry (glob_of entry.origin) entry.name p foreign (sym (ap (λ (e : Effect). e.events) does) ∙ h)
task_records_nothing oracle s (TryDerive directive written) effect p foreign does h = let none = ((tries_footprint oracle s directive written effect does).foot 0).events in cc
task_records_nothing oracle s (Bring from into) effect p foreign does h = let none = ap (λ (e : Effect). e.events) does in cc
task_records_nothing oracle s (TakeOut at name function) effect p foreign does h = take_records_nothing s at name function effect (takes_out s at name function) p foreign does h
task_records_nothing oracle s (AddEdge source edge) effect p foreign does h = let none = ap (λ (e : Effect). e.events) does in cc

-- no import has its turn while something is left to do
no_import_before_its_turn : (oracle : Oracle) (a b : Moment) (task : Task) (rest : List Task) (p : Import) (foreign : Bool)
    → a.tasks ≡ task ∷ rest → Step oracle a b → b.events ≡ a.events ++ Recorded p foreign ∷ [] → ⊥
no_import_before_its_turn oracle a b task rest p foreign left step happened = at step
  where
    nothing_happened : b.events ≡ a.events → ⊥
    nothing_happened same = let wrong : [] ≡ Recorded p foreign ∷ [] = same_end a.events [] (Recorded p foreign ∷ []) (append-nil a.events ∙ (sym same ∙ happened)) in cc

    at : Step oracle a b → ⊥
    at (performs first others effect is does after) =
        task_records_nothing oracle a.state first effect p foreign does (same_end a.events effect.events (Recorded p foreign ∷ []) (sym (ap (λ (m : Moment). m.events) after) ∙ happened))
    at (copies content copy after) = nothing_happened (ap (λ (m : Moment). m.events) after)
    at (reorders macros same after) = nothing_happened (ap (λ (m : Moment). m.events) after)
    at (rearranges state same after) = nothing_happened (ap (λ (m : Moment). m.events) after)
    at (records effect idle recorded after) = cc
    at (asks effect idle asked after) = cc
    at (notes idle after) = cc
    at (expands effect idle taken after) = cc
    at (falls_back effect idle taken after) = cc
