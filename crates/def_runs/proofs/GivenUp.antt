-- `#[foo] struct S;` without a macro: S waits, and is not declared; once nothing else moves it is given up, foo is reported, and S declared.
use Rattle.std.proofs.Common.{◌≡◌, Some, [], ◌∷◌, Contains, refl, subst, lit<, false}
use Rattle.item_tree.specs.declared.attrs.AttrsOrCfg.TheVariants.{Enabled}
use Rattle.item_tree.specs.declared.items.ItemNode.{ItemNode}
use Rattle.item_tree.specs.declared.tree.ItemTree.{ItemTree}
use Rattle.def_ids.specs.declared.ids.ItemContainerId.TheVariants.{Module}
use Rattle.def_interner.specs.Session.{Session, StructItem}
use Rattle.def_bindings.specs.declared.bindings.Namespace.TheVariants.{Types, Values}
use Rattle.def_rules.specs.Fallback.{IsStuck, attr_diagnostic}
use Rattle.def_rules.specs.Headline.{Answers}
use Rattle.def_rules.specs.InTurn.{LeavesInTurn}
use Rattle.def_rules.specs.Report.{Answer, IsOutcome}
use Rattle.def_rules.specs.Settled.{IsNoAttribute}
use Rattle.def_rules.specs.Start.{start}
use Rattle.def_rules.specs.State.{Setting, Moment, PutExplicit}
use Rattle.def_rules.specs.Waiting.{Attr, MacroDirective, WrittenAttr}
use Rattle.def_rules.specs.Steps.{Reaches, falls_back, join, one, performs}
use Rattle.def_runs.proofs.Called.{declared, foo, s}
use Rattle.def_runs.proofs.Exported.{marked_with}
use Rattle.def_runs.proofs.RowLemmas.{answer_of, answers_without, are_bare, no_targets, none_leave_in_turn, stuck_without}
use Rattle.def_runs.proofs.Rows.{crate_of, module_at, position}
use Rattle.def_runs.proofs.Sessions.{gets_number, no_session, unchanged}
use Rattle.def_runs.proofs.Trees.{items, node, root_file, tree_with, unit_struct}
use Rattle.def_runs.proofs.Vectors.{nothing_left}
use Rattle.def_runs.proofs.OneStruct.{session}

-- `#[foo] struct S;`
abbrev with_attribute : ItemNode
with_attribute = record (node 0 (unit_struct s)) { attrs = Some (Enabled (record { list = marked_with foo ∷ [] })) }

abbrev tree : ItemTree
tree = tree_with (with_attribute ∷ []) (items (0 ∷ [])) refl

abbrev setting : Setting
setting = crate_of tree

-- the walk: S waits
abbrev walked : (m : Moment) × Reaches setting.oracle (start setting no_session) m
walked = (_, join (one (performs _ _ _ refl refl refl)) (one (performs _ _ _ refl refl refl)))

abbrev walked_to : Moment
walked_to = walked.0

-- nothing is left to do but what waits
idle : walked_to.tasks ≡ []
idle = refl

-- its attribute, and S as it waits
abbrev written : WrittenAttr
written = record { tree = root_file; item = record { 0 = 0 }; id = record { 0 = 0 }; attr = marked_with foo }

abbrev waiting : MacroDirective
waiting = record { scope = module_at 0; container = Module (module_at 0); position = position 0; depth = 1; kind = Attr written }

it_waits : walked_to.state.macros ≡ waiting ∷ []
it_waits = refl

-- it is not declared so far, and nothing is reported
nothing_is_declared : (walked_to.state.content.names (module_at 0) ≡ []) × (walked_to.events ≡ []) × (walked_to.state.diagnostics ≡ [])
nothing_is_declared = (refl, refl, refl)

-- there is no such macro, and nothing else moves
stuck : IsStuck setting.oracle walked_to.state
stuck = stuck_without setting.oracle walked_to.state (are_bare refl refl) refl refl (λ source. refl)

-- so S is given up, and declared
abbrev given_up : (m : Moment) × Reaches setting.oracle walked_to m
given_up = (
  _,
  join (one (falls_back _ refl (record { before = []; directive = waiting; behind = []; written = written; stands = refl; is_attr = refl; stuck = stuck; is = refl }) refl))
      (join (one (performs _ _ _ refl (session, gets_number StructItem 0 refl refl, _, refl, (session, unchanged session, (0, refl, refl))) refl))
      (join (one (performs _ _ _ refl refl refl))
      (one (performs _ _ _ refl refl refl)))),
)

abbrev last : Moment
last = given_up.0

ran : Reaches setting.oracle (start setting no_session) last
ran = join walked.1 given_up.1

shown : IsOutcome last.state nothing_left
shown = record { imports = refl; macros = refl; edges = λ source. refl; targets = no_targets }

abbrev answered : Answer
answered = answer_of setting.oracle last.state nothing_left

-- no macro is asked
in_turn : LeavesInTurn setting.oracle (start setting no_session) last ran
unfolding ran
in_turn = none_leave_in_turn ran refl

-- what is answered of this crate
given_up_answers : Answers setting no_session session answered
given_up_answers = answers_without setting no_session last nothing_left ran in_turn refl (are_bare refl refl) refl refl refl shown (λ source. refl) refl

-- S is bound, and its attribute reported
s_is_bound : (answered.content.binding (module_at 0) s Types ≡ Some (declared 0)) × (answered.content.binding (module_at 0) s Values ≡ Some (declared 0))
s_is_bound = (refl, refl)

all_that_happened : last.events ≡ PutExplicit (module_at 0) s Types (declared 0) ∷ PutExplicit (module_at 0) s Values (declared 0) ∷ []
all_that_happened = refl

it_is_reported : answered.diagnostics ≡ attr_diagnostic waiting written ∷ []
it_is_reported = refl

-- stopping where S still waits is no answer
stopping_at_the_walk_is_no_answer : (after : Session) (answer : Answer) (answers : Answers setting no_session after answer) → answer.outcome.limit_met ≡ false → answers.run.end ≡ walked_to → ⊥
stopping_at_the_walk_is_no_answer after answer answers unmet early =
    subst (λ (m : Moment). (d : MacroDirective) → Contains m.state.macros d → IsNoAttribute d.kind) early (answers.settled unmet).attributes waiting (0, lit< tt, refl)
