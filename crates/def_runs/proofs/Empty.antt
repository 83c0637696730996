-- A crate without items: its run stores the directory of its root, and its answer is one module in which nothing is bound.
use Rattle.std.proofs.Common.{◌≡◌, None, [], ◌∷◌, refl}
use Rattle.item_tree.specs.declared.tree.ItemTree.{ItemTree}
use Rattle.def_bindings.specs.declared.visibility.Visibility.TheVariants.{Public}
use Rattle.def_bindings.specs.Content.{empty}
use Rattle.def_modules.specs.declared.module_data.ModuleOrigin.TheVariants.{CrateRoot}
use Rattle.def_modules.specs.Scopes.{empty_module}
use Rattle.def_rules.specs.Headline.{Answers}
use Rattle.def_rules.specs.InTurn.{LeavesInTurn}
use Rattle.def_rules.specs.Report.{Answer, IsOutcome}
use Rattle.def_rules.specs.Start.{start}
use Rattle.def_rules.specs.State.{Setting, Moment}
use Rattle.def_rules.specs.Steps.{Reaches, one, performs}
use Rattle.def_runs.proofs.RowLemmas.{answer_of, answers_without, are_bare, no_targets, none_leave_in_turn}
use Rattle.def_runs.proofs.Rows.{crate_of}
use Rattle.def_runs.proofs.Sessions.{no_session}
use Rattle.def_runs.proofs.Trees.{tree_with}
use Rattle.def_runs.proofs.Vectors.{nothing_left}

abbrev pub tree : ItemTree
tree = tree_with [] [] refl

abbrev pub setting : Setting
setting = crate_of tree

-- the one step: the walk of the root begins
abbrev pub ran : (end : Moment) × Reaches setting.oracle (start setting no_session) end
ran = (_, one (performs _ _ _ refl refl refl))

abbrev pub last : Moment
last = ran.0

-- nothing is left to do
done : last.tasks ≡ []
done = refl

shown : IsOutcome last.state nothing_left
shown = record { imports = refl; macros = refl; edges = λ source. refl; targets = no_targets }

abbrev pub answered : Answer
answered = answer_of setting.oracle last.state nothing_left

-- no macro is asked
in_turn : LeavesInTurn setting.oracle (start setting no_session) last ran.1
in_turn = none_leave_in_turn ran.1 refl

-- what is answered of a crate without items
empty_answers : Answers setting no_session no_session answered
empty_answers = answers_without setting no_session last nothing_left ran.1 in_turn refl (are_bare refl refl) refl refl refl shown (λ source. refl) refl

-- it is one module, the crate's root, with nothing in it
one_module : answered.map.modules ≡ empty_module None CrateRoot Public ∷ []
one_module = refl

nothing_is_bound : answered.content ≡ empty
nothing_is_bound = refl

nothing_is_reported : answered.diagnostics ≡ []
nothing_is_reported = refl
