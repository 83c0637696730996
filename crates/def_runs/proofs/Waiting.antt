-- `foo!(bar!()); macro_rules! foo {}`, where the call gives `struct S;`, and for its argument call 1 is made: no macro is in scope where the call stands, so it waits; once all is walked it is asked, call 1 is recorded behind it, S is declared, and nothing is left over.
use Rattle.std.proofs.Common.{◌≡◌, true, false, Option, Some, None, Ok, Err, List, Result, [], ◌∷◌, Contains, refl, subst, map, lit<}
use Rattle.tree_ids.specs.declared.ids.HirFileId.{HirFileId}
use Rattle.tree_ids.specs.declared.ids.HirFileId.TheVariants.{File, Macro as MacroFile}
use Rattle.tree_ids.specs.declared.ids.MacroCallId.{MacroCallId}
use Rattle.item_tree.specs.declared.items.ExpandTo.TheVariants.{Items}
use Rattle.item_tree.specs.declared.items.ModItemKind.TheVariants.{MacroCall, MacroRules as RulesItem}
use Rattle.item_tree.specs.declared.tree.ItemTree.{ItemTree}
use Rattle.def_ids.specs.declared.ids.ItemContainerId.TheVariants.{Module}
use Rattle.def_interner.specs.declared.macro_def.MacroDefId.{MacroDefId}
use Rattle.def_interner.specs.Session.{Session, StructItem}
use Rattle.def_bindings.specs.declared.bindings.Namespace.TheVariants.{Types, Values}
use Rattle.def_oracle.specs.declared.source_database.CallAnswer.{CallAnswer}
use Rattle.def_oracle.specs.declared.source_database.UnresolvedMacro.{UnresolvedMacro}
use Rattle.def_oracle.specs.Queries.{PlainCall}
use Rattle.def_rules.specs.Directives.{Stays, told}
use Rattle.def_rules.specs.Headline.{Answers}
use Rattle.def_rules.specs.Fallback.{IsQuiet}
use Rattle.def_rules.specs.InTurn.{LeavesInTurn, parts}
use Rattle.def_rules.specs.Report.{Answer, IsOutcome}
use Rattle.def_rules.specs.Start.{start}
use Rattle.def_rules.specs.State.{Setting, Moment, PutExplicit}
use Rattle.def_rules.specs.Waiting.{Expansion, FnLike, MacroDirective}
use Rattle.def_rules.specs.Steps.{Reaches, join, notes, one, performs}
use Rattle.def_runs.proofs.Called.{declared, expansion, foo, in_expansion, of_foo, s}
use Rattle.def_runs.proofs.RowLemmas.{answer_of, answers_without, are_bare, asked_in_turn, expansion_taken, macro_asked, no_targets, none_leave_in_turn, quiet_without}
use Rattle.def_runs.proofs.Rows.{crate_of, knowing, module_at, position}
use Rattle.def_runs.proofs.Sessions.{gets_macro, gets_number, no_session, unchanged, with_item}
use Rattle.def_runs.proofs.Textual.{foo_loc, the_macro, with_foo}
use Rattle.def_runs.proofs.Trees.{items, node, tree_with}
use Rattle.def_runs.proofs.Vectors.{nothing_left}

abbrev pub tree : ItemTree
tree = tree_with (node 1 (MacroCall of_foo Items (record { 0 = 0 })) ∷ node 0 (RulesItem foo) ∷ []) (items (0 ∷ 1 ∷ [])) refl

-- every file is the root file, and every call has the expansion `struct S;`
abbrev pub tree_of : HirFileId → Option ItemTree
tree_of (File file) = Some tree
tree_of (MacroFile call) = Some expansion

-- a call is number 0, if its macro is found; for its argument call 1 was made, at position 2
abbrev pub answer_to : PlainCall → List (Option MacroDefId) → Result CallAnswer UnresolvedMacro
answer_to call (Some found ∷ rest) = Ok (record { value = Some (record { 0 = 0 }); err = None; inner = (position 2, record { 0 = 1 }) ∷ [] })
answer_to call _ = Err (record { path = call.path })

-- the resolver is asked for the call's path
abbrev pub setting : Setting
setting = record (crate_of tree) { oracle = record (knowing tree) { item_tree = λ id. tree_of id.file; asked_paths = λ call. call.path ∷ []; macro_call = answer_to; rule_styles = λ file krate. record { 0 = 1 } } }

-- foo is macro 0, and S struct 0
abbrev pub session : Session
session = with_item StructItem 0 in_expansion with_foo

-- the walk: no macro is found for the call, and then foo is defined
abbrev pub walked : (m : Moment) × Reaches setting.oracle (start setting no_session) m
walked = (
  _,
  join (one (performs _ _ _ refl refl refl))
      (join (one (performs _ _ _ refl (no_session, unchanged no_session, _, refl, (no_session, unchanged no_session, refl)) refl))
      (one (performs _ _ _ refl (with_foo, gets_macro the_macro foo_loc tt refl refl refl, _, refl, (with_foo, unchanged with_foo, (0, Some foo, refl, refl, refl))) refl))),
)

abbrev pub walked_to : Moment
walked_to = walked.0

-- nothing is left to do but the call
idle : walked_to.tasks ≡ []
idle = refl

-- the call as it waits: its expansion will lie one level deep
abbrev pub waiting : MacroDirective
waiting = record { scope = module_at 0; container = Module (module_at 0); position = position 1; depth = 1; kind = FnLike (record { path = of_foo; expand_to = Items; ctxt = record { 0 = 0 } }) }

it_waits : walked_to.state.macros ≡ waiting ∷ []
it_waits = refl

-- no name is bound so far, no call is recorded, and nothing has happened
nothing_happened : (walked_to.state.content.names (module_at 0) ≡ []) × (map (λ m. m.invoked (position 1) (record { 0 = 0 })) walked_to.state.map.modules ≡ false ∷ []) × (walked_to.events ≡ [])
nothing_happened = (refl, refl, refl)

-- call 0
abbrev pub the_call : MacroCallId
the_call = record { 0 = 0 }

-- the call is asked, and foo is found
abbrev pub asked : (m : Moment) × Reaches setting.oracle walked_to m
asked = (_, macro_asked setting.oracle walked_to waiting [] refl refl)

abbrev pub asked_to : Moment
asked_to = asked.0

-- it waits no more, and its expansion is to be walked where it stood, one level deep
abbrev pub pending : Expansion
pending = record { scope = module_at 0; container = Module (module_at 0); depth = 1; call = the_call; replaces = None }

it_is_given : (asked_to.state.macros ≡ []) × (asked_to.state.expansions ≡ pending ∷ [])
it_is_given = (refl, refl)

-- call 0 is recorded, and call 1 is to be
abbrev pub inner : MacroCallId
inner = record { 0 = 1 }

inner_waits : (map (λ m. m.invoked (position 1) the_call) asked_to.state.map.modules ≡ true ∷ []) × (map (λ m. m.invoked (position 2) inner) asked_to.state.map.modules ≡ false ∷ [])
    × (asked_to.state.inner_calls ≡ record { module_id = module_at 0; position = position 2; call = inner } ∷ [])
inner_waits = (refl, refl, refl)

-- it is recorded behind the turns of those that waited
abbrev pub noted : (m : Moment) × Reaches setting.oracle asked_to m
noted = (_, one (notes refl refl))

abbrev pub noted_to : Moment
noted_to = noted.0

inner_is_recorded : (map (λ m. m.invoked (position 2) inner) noted_to.state.map.modules ≡ true ∷ []) × (noted_to.state.inner_calls ≡ [])
inner_is_recorded = (refl, refl)

-- its expansion is walked, and S declared
abbrev pub expanded : (m : Moment) × Reaches setting.oracle noted_to m
expanded = (
  _,
  join (expansion_taken setting.oracle noted_to pending [] refl refl refl)
      (join (one (performs _ _ _ refl refl refl))
      (join (one (performs _ _ _ refl (session, gets_number StructItem 0 refl refl, _, refl, (session, unchanged session, (0, refl, refl))) refl))
      (join (one (performs _ _ _ refl refl refl))
      (one (performs _ _ _ refl refl refl))))),
)

abbrev pub last : Moment
last = expanded.0

ran : Reaches setting.oracle (start setting no_session) last
ran = join walked.1 (join asked.1 (join noted.1 expanded.1))

shown : IsOutcome last.state nothing_left
shown = record { imports = refl; macros = refl; edges = λ source. refl; targets = no_targets }

abbrev pub answered : Answer
answered = answer_of setting.oracle last.state nothing_left

-- where it is asked, nothing else moves
quiet : IsQuiet setting.oracle walked_to.state
quiet = quiet_without setting.oracle walked_to.state (are_bare refl refl) refl (λ source. refl)

-- so it leaves in turn
in_turn : LeavesInTurn setting.oracle (start setting no_session) last ran
unfolding ran expansion_taken
in_turn = parts (none_leave_in_turn walked.1 refl) (parts (asked_in_turn setting.oracle walked_to waiting [] refl refl quiet) (parts (none_leave_in_turn noted.1 refl) (none_leave_in_turn expanded.1 refl)))

-- what is answered of this crate
waiting_answers : Answers setting no_session session answered
waiting_answers = answers_without setting no_session last nothing_left ran in_turn refl (are_bare refl refl) refl refl refl shown (λ source. refl) refl

-- S is bound, and nothing else
s_is_bound : (answered.content.binding (module_at 0) s Types ≡ Some (declared 0)) × (answered.content.binding (module_at 0) s Values ≡ Some (declared 0))
s_is_bound = (refl, refl)

names_of_root : answered.content.names (module_at 0) ≡ s ∷ []
names_of_root = refl

-- each call is recorded at its position, and at no other
recorded : (map (λ m. m.invoked (position 1) the_call) answered.map.modules ≡ true ∷ []) × (map (λ m. m.invoked (position 0) the_call) answered.map.modules ≡ false ∷ []) × (map (λ m. m.invoked (position 2) inner) answered.map.modules ≡ true ∷ [])
recorded = (refl, refl, refl)

-- both entries of S were put, and nothing else happened
all_that_happened : last.events ≡ PutExplicit (module_at 0) s Types (declared 0) ∷ PutExplicit (module_at 0) s Values (declared 0) ∷ []
all_that_happened = refl

-- no macro is left over, and no expansion
nothing_is_left : (last.state.macros ≡ []) × (last.state.expansions ≡ [])
nothing_is_left = (refl, refl)

nothing_is_reported : answered.diagnostics ≡ []
nothing_is_reported = refl

-- stopping where the call still waits is no answer: it is given a call
stopping_at_the_walk_is_no_answer : (after : Session) (answer : Answer) (answers : Answers setting no_session after answer) → answer.outcome.limit_met ≡ false → answers.run.end ≡ walked_to → ⊥
stopping_at_the_walk_is_no_answer after answer answers unmet early =
    let at_end : (told setting.oracle walked_to.state waiting).turn ≡ Stays =
    subst (λ (m : Moment). Contains m.state.macros waiting → (told setting.oracle m.state waiting).turn ≡ Stays) early
    (λ left. (answers.settled unmet).macros.stay waiting left) (0, lit< tt, refl) in
    cc

-- nor is stopping where call 1 is still to be recorded
stopping_before_the_record_is_no_answer : (after : Session) (answer : Answer) (answers : Answers setting no_session after answer) → answers.run.end ≡ asked_to → ⊥
stopping_before_the_record_is_no_answer after answer answers early =
    let none : asked_to.state.inner_calls ≡ [] = subst (λ (m : Moment). m.state.inner_calls ≡ []) early answers.run.bare.inner_calls in
    cc

-- nor is stopping where its expansion is still to be walked
stopping_before_the_expansion_is_no_answer : (after : Session) (answer : Answer) (answers : Answers setting no_session after answer) → answers.run.end ≡ noted_to → ⊥
stopping_before_the_expansion_is_no_answer after answer answers early =
    let none : noted_to.state.expansions ≡ [] = subst (λ (m : Moment). m.state.expansions ≡ []) early answers.run.bare.expansions in
    cc
