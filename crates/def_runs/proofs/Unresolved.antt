-- `foo!();` in a crate that defines no foo: the call waits, is given nothing when it is asked, and is left over and reported.
use Rattle.std.proofs.Common.{◌≡◌, false, [], ◌∷◌, refl, sym, subst, map, lit<, ◌∙◌}
use Rattle.item_tree.specs.declared.items.ExpandTo.TheVariants.{Items}
use Rattle.item_tree.specs.declared.items.ModItemKind.TheVariants.{MacroCall}
use Rattle.item_tree.specs.declared.tree.ItemTree.{ItemTree}
use Rattle.def_ids.specs.declared.ids.ItemContainerId.TheVariants.{Module}
use Rattle.def_interner.specs.Session.{Session}
use Rattle.def_rules.specs.declared.diagnostics.DefDiagnostic.{DefDiagnostic}
use Rattle.def_rules.specs.declared.diagnostics.DefDiagnosticKind.TheVariants.{UnresolvedMacroCall}
use Rattle.def_rules.specs.declared.outcome.LeftMacro.{LeftMacro}
use Rattle.def_rules.specs.declared.outcome.LeftMacroKind.TheVariants.{Fn}
use Rattle.def_rules.specs.declared.outcome.Outcome.{Outcome}
use Rattle.def_rules.specs.Directives.{Stays, told}
use Rattle.def_rules.specs.Headline.{Answers}
use Rattle.def_rules.specs.Fallback.{IsQuiet}
use Rattle.def_rules.specs.InTurn.{LeavesInTurn, parts}
use Rattle.def_rules.specs.Report.{Answer, IsOutcome, report}
use Rattle.def_rules.specs.Start.{start}
use Rattle.def_rules.specs.State.{Setting, Moment}
use Rattle.def_rules.specs.Waiting.{FnLike, MacroDirective}
use Rattle.def_rules.specs.Steps.{Reaches, join, one, performs}
use Rattle.def_runs.proofs.Called.{answer_to, of_foo}
use Rattle.def_runs.proofs.RowLemmas.{answer_of, answers_without, are_bare, asked_in_turn, macro_asked, no_targets, none_leave_in_turn, quiet_without}
use Rattle.def_runs.proofs.Rows.{crate_of, knowing, module_at, position}
use Rattle.def_runs.proofs.Sessions.{no_session, unchanged}
use Rattle.def_runs.proofs.Trees.{items, node, tree_with}
use Rattle.def_runs.proofs.Vectors.{nothing_left, vec_of}

abbrev pub tree : ItemTree
tree = tree_with (node 0 (MacroCall of_foo Items (record { 0 = 0 })) ∷ []) (items (0 ∷ [])) refl

-- the resolver is asked for the call's path, and finds nothing
abbrev pub setting : Setting
setting = record (crate_of tree) { oracle = record (knowing tree) { asked_paths = λ call. call.path ∷ []; macro_call = answer_to } }

-- the walk: no macro is found for the call, and it waits
abbrev pub walked : (m : Moment) × Reaches setting.oracle (start setting no_session) m
walked = (
  _,
  join (one (performs _ _ _ refl refl refl))
      (one (performs _ _ _ refl (no_session, unchanged no_session, _, refl, (no_session, unchanged no_session, refl)) refl)),
)

abbrev pub walked_to : Moment
walked_to = walked.0

-- nothing is left to do but the call
idle : walked_to.tasks ≡ []
idle = refl

abbrev pub waiting : MacroDirective
waiting = record { scope = module_at 0; container = Module (module_at 0); position = position 0; depth = 1; kind = FnLike (record { path = of_foo; expand_to = Items; ctxt = record { 0 = 0 } }) }

it_waits : walked_to.state.macros ≡ waiting ∷ []
it_waits = refl

-- it is asked, and is given nothing
abbrev pub asked : (m : Moment) × Reaches setting.oracle walked_to m
asked = (_, macro_asked setting.oracle walked_to waiting [] refl refl)

abbrev pub last : Moment
last = asked.0

ran : Reaches setting.oracle (start setting no_session) last
ran = join walked.1 asked.1

-- so nothing changes: it stays where it waits
it_stays : last ≡ walked_to
it_stays = refl

nothing_is_given : (told setting.oracle last.state waiting).turn ≡ Stays
nothing_is_given = refl

-- the call as it is left over: its expansion would lie one level deep
abbrev pub left : LeftMacro
left = record { «module» = module_at 0; ast_id = position 0; kind = Fn; path = of_foo; depth = 1 }

abbrev pub one_left : Outcome
one_left = record nothing_left { macros = vec_of (left ∷ []) (lit< tt) }

shown : IsOutcome last.state one_left
shown = record { imports = refl; macros = refl; edges = λ source. refl; targets = no_targets }

abbrev pub answered : Answer
answered = answer_of setting.oracle last.state one_left

-- where it is asked, nothing else moves
quiet : IsQuiet setting.oracle walked_to.state
quiet = quiet_without setting.oracle walked_to.state (are_bare refl refl) refl (λ source. refl)

-- so no macro leaves that had not waited there
in_turn : LeavesInTurn setting.oracle (start setting no_session) last ran
unfolding ran
in_turn = parts (none_leave_in_turn walked.1 refl) (asked_in_turn setting.oracle walked_to waiting [] refl refl quiet)

-- what is answered of this crate
unresolved_answers : Answers setting no_session no_session answered
unresolved_answers = answers_without setting no_session last one_left ran in_turn refl (are_bare refl refl) refl refl refl shown (λ source. refl) refl

-- the call is left over, and nothing else
left_over : (answered.outcome.macros.items ≡ left ∷ []) × (answered.outcome.imports.items ≡ [])
left_over = (refl, refl)

-- it is reported once, as a call of a macro that is not found, with its path
abbrev pub not_found : DefDiagnostic
not_found = record { «module» = module_at 0; ast_id = position 0; kind = UnresolvedMacroCall Fn of_foo }

it_is_reported : answered.diagnostics ≡ not_found ∷ []
it_is_reported = refl

-- nothing is bound, no call is recorded, and nothing happened
nothing_is_bound : answered.content.names (module_at 0) ≡ []
nothing_is_bound = refl

no_call_is_recorded : map (λ m. m.invoked (position 0) (record { 0 = 0 })) answered.map.modules ≡ false ∷ []
no_call_is_recorded = refl

nothing_happened : last.events ≡ []
nothing_happened = refl

-- at this end, an answer that reports nothing is none
it_has_to_be_reported : (after : Session) (answer : Answer) (answers : Answers setting no_session after answer) → answers.run.end ≡ last → answer.diagnostics ≡ [] → ⊥
it_has_to_be_reported after answer answers ends none =
    let nothing : report setting.oracle last.state ≡ [] = subst (λ (m : Moment). report setting.oracle m.state ≡ []) ends (sym answers.reported ∙ none) in
    cc
