-- `macro_rules! foo {} #[foo] struct T;`, where foo may be called by attributes and gives `struct S;`: T waits, and is not declared; once all is walked foo is called, and S declared in its place.
use Rattle.std.proofs.Common.{◌≡◌, true, Option, Some, [], ◌∷◌, Contains, refl, subst, map, lit<, false}
use Rattle.item_tree.specs.declared.attrs.AttrsOrCfg.TheVariants.{Enabled}
use Rattle.tree_ids.specs.declared.ids.HirFileId.{HirFileId}
use Rattle.tree_ids.specs.declared.ids.HirFileId.TheVariants.{File, Macro as MacroFile}
use Rattle.item_tree.specs.declared.items.ItemNode.{ItemNode}
use Rattle.item_tree.specs.declared.items.ModItemKind.TheVariants.{MacroRules as RulesItem}
use Rattle.item_tree.specs.declared.tree.ItemTree.{ItemTree}
use Rattle.def_ids.specs.declared.ids.ItemContainerId.TheVariants.{Module}
use Rattle.def_interner.specs.declared.macro_def.MacroDefKind.TheVariants.{Declarative}
use Rattle.def_interner.specs.Session.{Session, MacroLoc, StructItem}
use Rattle.def_bindings.specs.declared.bindings.Namespace.TheVariants.{Types, Values}
use Rattle.def_rules.specs.Directives.{Stays, told}
use Rattle.def_rules.specs.Headline.{Answers}
use Rattle.def_rules.specs.Fallback.{IsQuiet}
use Rattle.def_rules.specs.InTurn.{LeavesInTurn, parts}
use Rattle.def_rules.specs.Report.{Answer, IsOutcome}
use Rattle.def_rules.specs.Start.{start}
use Rattle.def_rules.specs.State.{Setting, Moment, PutExplicit}
use Rattle.def_rules.specs.Waiting.{Attr, Expansion, MacroDirective}
use Rattle.def_rules.specs.Steps.{Reaches, join, one, performs}
use Rattle.def_runs.proofs.Called.{declared, expansion, foo, in_expansion, s, t}
use Rattle.def_runs.proofs.Exported.{marked_with}
use Rattle.def_runs.proofs.RowLemmas.{answer_of, answers_without, are_bare, asked_in_turn, expansion_taken, macro_asked, no_targets, none_leave_in_turn, quiet_without}
use Rattle.def_runs.proofs.Rows.{crate_of, knowing, module_at, position}
use Rattle.def_runs.proofs.Sessions.{gets_macro, gets_number, no_session, unchanged, with_item, with_macro}
use Rattle.def_runs.proofs.Textual.{foo_loc as called_loc, the_macro}
use Rattle.def_runs.proofs.Trees.{items, node, root_file, tree_with, unit_struct}
use Rattle.def_runs.proofs.Vectors.{nothing_left}
use Rattle.def_runs.proofs.Waiting.{pending as beside, the_call}

-- `#[foo] struct T;`
abbrev with_attribute : ItemNode
with_attribute = record (node 1 (unit_struct t)) { attrs = Some (Enabled (record { list = marked_with foo ∷ [] })) }

abbrev tree : ItemTree
tree = tree_with (node 0 (RulesItem foo) ∷ with_attribute ∷ []) (items (0 ∷ 1 ∷ [])) refl

-- every file is the root file, and every call has the expansion `struct S;`
abbrev tree_of : HirFileId → Option ItemTree
tree_of (File file) = Some tree
tree_of (MacroFile call) = Some expansion

-- each macro by rules may be called by attributes alone, and its call is number 0
abbrev setting : Setting
setting = record (crate_of tree) { oracle = record (knowing tree) { item_tree = λ id. tree_of id.file; rule_styles = λ file krate. record { 0 = 2 } } }

-- foo is number 0 among macros by rules
abbrev foo_loc : MacroLoc
foo_loc = record called_loc { kind = Declarative (record { 0 = 2 }) }

abbrev with_foo : Session
with_foo = with_macro the_macro foo_loc no_session

-- and S among structs
abbrev session : Session
session = with_item StructItem 0 in_expansion with_foo

-- the walk: foo is defined, and T waits
abbrev walked : (m : Moment) × Reaches setting.oracle (start setting no_session) m
walked = (
  _,
  join (one (performs _ _ _ refl refl refl))
      (join (one (performs _ _ _ refl (with_foo, gets_macro the_macro foo_loc tt refl refl refl, _, refl, (with_foo, unchanged with_foo, (0, Some foo, refl, refl, refl))) refl))
      (one (performs _ _ _ refl refl refl))),
)

abbrev walked_to : Moment
walked_to = walked.0

-- nothing is left to do but what waits
idle : walked_to.tasks ≡ []
idle = refl

-- T as it waits: what stands in its place will lie one level deep
abbrev waiting : MacroDirective
waiting =
    record {
      scope = module_at 0;
      container = Module (module_at 0);
      position = position 1;
      depth = 1;
      kind = Attr (record { tree = root_file; item = record { 0 = 1 }; id = record { 0 = 0 }; attr = marked_with foo });
    }

it_waits : walked_to.state.macros ≡ waiting ∷ []
it_waits = refl

-- it is not declared so far
nothing_is_declared : (walked_to.state.content.names (module_at 0) ≡ []) × (walked_to.events ≡ [])
nothing_is_declared = (refl, refl)

-- it has its turn, and foo is found
abbrev asked : (m : Moment) × Reaches setting.oracle walked_to m
asked = (_, macro_asked setting.oracle walked_to waiting [] refl refl)

abbrev asked_to : Moment
asked_to = asked.0

-- what is to be walked in its place
abbrev pending : Expansion
pending = record beside { replaces = Some (position 1) }

-- it waits no more, the expansion is to be walked in its place, and is not to see the attribute
it_is_given : (asked_to.state.macros ≡ []) × (asked_to.state.expansions ≡ pending ∷ []) × (asked_to.state.active (position 1) ≡ record { 0 = 0 } ∷ [])
it_is_given = (refl, refl, refl)

-- the expansion is walked, and S declared
abbrev expanded : (m : Moment) × Reaches setting.oracle asked_to m
expanded = (
  _,
  join (expansion_taken setting.oracle asked_to pending [] refl refl refl)
      (join (one (performs _ _ _ refl refl refl))
      (join (one (performs _ _ _ refl (session, gets_number StructItem 0 refl refl, _, refl, (session, unchanged session, (0, refl, refl))) refl))
      (join (one (performs _ _ _ refl refl refl))
      (one (performs _ _ _ refl refl refl))))),
)

abbrev last : Moment
last = expanded.0

ran : Reaches setting.oracle (start setting no_session) last
ran = join walked.1 (join asked.1 expanded.1)

shown : IsOutcome last.state nothing_left
shown = record { imports = refl; macros = refl; edges = λ source. refl; targets = no_targets }

abbrev answered : Answer
answered = answer_of setting.oracle last.state nothing_left

-- where it is asked, nothing else moves
quiet : IsQuiet setting.oracle walked_to.state
quiet = quiet_without setting.oracle walked_to.state (are_bare refl refl) refl (λ source. refl)

-- so it leaves in turn
in_turn : LeavesInTurn setting.oracle (start setting no_session) last ran
unfolding ran expansion_taken
in_turn = parts (none_leave_in_turn walked.1 refl) (parts (asked_in_turn setting.oracle walked_to waiting [] refl refl quiet) (none_leave_in_turn expanded.1 refl))

-- what is answered of this crate
attribute_answers : Answers setting no_session session answered
attribute_answers = answers_without setting no_session last nothing_left ran in_turn refl (are_bare refl refl) refl refl refl shown (λ source. refl) refl

-- S is bound, and T is not
s_is_bound : (answered.content.binding (module_at 0) s Types ≡ Some (declared 0)) × (answered.content.binding (module_at 0) s Values ≡ Some (declared 0))
s_is_bound = (refl, refl)

names_of_root : answered.content.names (module_at 0) ≡ s ∷ []
names_of_root = refl

-- the call is recorded at the item
recorded : map (λ m. m.invoked (position 1) the_call) answered.map.modules ≡ true ∷ []
recorded = refl

all_that_happened : last.events ≡ PutExplicit (module_at 0) s Types (declared 0) ∷ PutExplicit (module_at 0) s Values (declared 0) ∷ []
all_that_happened = refl

nothing_is_reported : answered.diagnostics ≡ []
nothing_is_reported = refl

-- stopping where T still waits is no answer
stopping_at_the_walk_is_no_answer : (after : Session) (answer : Answer) (answers : Answers setting no_session after answer) → answer.outcome.limit_met ≡ false → answers.run.end ≡ walked_to → ⊥
stopping_at_the_walk_is_no_answer after answer answers unmet early =
    let at_end : (told setting.oracle walked_to.state waiting).turn ≡ Stays =
    subst (λ (m : Moment). Contains m.state.macros waiting → (told setting.oracle m.state waiting).turn ≡ Stays) early
    (λ left. (answers.settled unmet).macros.stay waiting left) (0, lit< tt, refl) in
    cc
