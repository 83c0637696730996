-- `extern crate gone as g; use g::X; use ::g::Y; use self::g::Z;`: the crate is not found, so paths that may begin with its name are excused.
use Rattle.std.proofs.Common.{◌≡◌, ℕ, true, false, Some, [], ◌∷◌, map, refl, lit<}
use Rattle.item_tree.specs.declared.items.ImportAlias.TheVariants.{Alias}
use Rattle.item_tree.specs.declared.items.ImportKind.TheVariants.{Plain as PlainImport}
use Rattle.item_tree.specs.declared.items.ModItemKind.TheVariants.{ExternCrate}
use Rattle.item_tree.specs.declared.items.RawVisibility.TheVariants.{PubSelf}
use Rattle.item_tree.specs.declared.mod_path.ModPath.{ModPath}
use Rattle.item_tree.specs.declared.mod_path.PathKind.{PathKind}
use Rattle.item_tree.specs.declared.mod_path.PathKind.TheVariants.{Abs, Plain, Super}
use Rattle.tree_ids.specs.declared.name.Name.{Name}
use Rattle.item_tree.specs.declared.tree.ItemTree.{ItemTree}
use Rattle.def_interner.specs.Session.{Session, ExternCrateItem, UseItem}
use Rattle.def_bindings.specs.Content.{empty}
use Rattle.def_rules.specs.declared.diagnostics.DefDiagnosticKind.TheVariants.{UnresolvedExternCrate, UnresolvedImport}
use Rattle.def_rules.specs.declared.outcome.LeftImport.{LeftImport}
use Rattle.def_rules.specs.declared.outcome.Outcome.{Outcome}
use Rattle.def_rules.specs.Headline.{Answers}
use Rattle.def_rules.specs.InTurn.{LeavesInTurn}
use Rattle.def_rules.specs.Report.{Answer, IsOutcome}
use Rattle.def_rules.specs.Start.{start}
use Rattle.def_rules.specs.State.{Setting, Moment, Import}
use Rattle.def_rules.specs.Steps.{Reaches, join, one, performs}
use Rattle.def_runs.proofs.RowLemmas.{answer_of, answers_without, are_bare, no_targets, none_leave_in_turn}
use Rattle.def_runs.proofs.Rows.{crate_of, import_of, loc, module_at, not_recorded, position}
use Rattle.def_runs.proofs.Sessions.{gets_number, no_session, unchanged, with_item}
use Rattle.def_runs.proofs.Trees.{items, named, node, tree_with, use_one}
use Rattle.def_runs.proofs.Vectors.{vec_of}

abbrev gone : Name
gone = named 40

abbrev g : Name
g = named 41

abbrev X : Name
X = named 42

abbrev Y : Name
Y = named 43

abbrev Z : Name
Z = named 44

-- `g::NAME`, after what the path begins with
abbrev in_g : PathKind → Name → ModPath
in_g kind name = record { kind = kind; segments = g ∷ name ∷ [] }

abbrev tree : ItemTree
tree =
    tree_with
    (node 0 (ExternCrate gone PubSelf (Some (Alias g))) ∷ node 1 (use_one PubSelf PlainImport (in_g Plain X)) ∷ node 2 (use_one PubSelf PlainImport (in_g Abs Y))
    ∷ node 3 (use_one PubSelf PlainImport (in_g (Super 0) Z)) ∷ [])
    (items (0 ∷ 1 ∷ 2 ∷ 3 ∷ []))
    refl

abbrev setting : Setting
setting = crate_of tree

-- each item in turn gets a number
abbrev with_crate : Session
with_crate = with_item ExternCrateItem 0 (loc 0 0) no_session

abbrev with_x : Session
with_x = with_item UseItem 0 (loc 0 1) with_crate

abbrev with_y : Session
with_y = with_item UseItem 1 (loc 0 2) with_x

abbrev session : Session
session = with_item UseItem 2 (loc 0 3) with_y

-- the walk: the root is entered, the extern crate is visited and reported, and the three `use`s are visited
abbrev walked : (m : Moment) × Reaches setting.oracle (start setting no_session) m
walked = (
  _,
  join (one (performs _ _ _ refl refl refl))
      (join (one (performs _ _ _ refl (with_crate, gets_number ExternCrateItem 0 refl refl, _, refl, (with_crate, unchanged with_crate, (0, refl, refl))) refl))
      (join (one (performs _ _ _ refl (with_x, gets_number UseItem 0 refl refl, _, refl, (with_x, unchanged with_x, (0, refl, refl))) refl))
      (join (one (performs _ _ _ refl (with_y, gets_number UseItem 1 refl refl, _, refl, (with_y, unchanged with_y, (1, refl, refl))) refl))
      (one (performs _ _ _ refl (session, gets_number UseItem 2 refl refl, _, refl, (session, unchanged session, (2, refl, refl))) refl))))),
)

abbrev last : Moment
last = walked.0

abbrev waiting : ℕ → ℕ → ModPath → Import
waiting item number path = import_of 0 item number PubSelf PlainImport path

all_wait : last.state.imports ≡ not_recorded (waiting 1 0 (in_g Plain X)) ∷ not_recorded (waiting 2 1 (in_g Abs Y)) ∷ not_recorded (waiting 3 2 (in_g (Super 0) Z)) ∷ []
all_wait = refl

-- the missing crate is remembered by its alias
remembered : (last.state.missing_crates g ≡ true) × (last.state.missing_crates gone ≡ false)
remembered = (refl, refl)

abbrev left : ℕ → ModPath → LeftImport
left item path = record { «module» = module_at 0; ast_id = position item; idx = 0; path = path }

abbrev three_left : Outcome
three_left =
    record {
      limit_met = false;
      imports = vec_of (left 1 (in_g Plain X) ∷ left 2 (in_g Abs Y) ∷ left 3 (in_g (Super 0) Z) ∷ []) (lit< tt);
      macros = vec_of [] (lit< tt);
      edges = vec_of [] (lit< tt);
      targets = vec_of [] (lit< tt);
    }

shown : IsOutcome last.state three_left
shown = record { imports = refl; macros = refl; edges = λ source. refl; targets = no_targets }

abbrev answered : Answer
answered = answer_of setting.oracle last.state three_left

-- no macro is asked
in_turn : LeavesInTurn setting.oracle (start setting no_session) last walked.1
in_turn = none_leave_in_turn walked.1 refl

-- what is answered of this crate
excused_answers : Answers setting no_session session answered
excused_answers = answers_without setting no_session last three_left walked.1 in_turn refl (are_bare refl refl) refl refl refl shown (λ source. refl) refl

nothing_is_bound : answered.content ≡ empty
nothing_is_bound = refl

-- the extern crate is reported, and of the three imports the one whose path begins with `self`
two_reports : answered.diagnostics
    ≡ record { «module» = module_at 0; ast_id = position 0; kind = UnresolvedExternCrate } ∷ record { «module» = module_at 0; ast_id = position 3; kind = UnresolvedImport 0 } ∷ []
two_reports = refl

-- all three names failed
all_failed : (map (λ m. m.failed X) answered.map.modules ≡ true ∷ []) × (map (λ m. m.failed Y) answered.map.modules ≡ true ∷ []) × (map (λ m. m.failed Z) answered.map.modules ≡ true ∷ [])
all_failed = (refl, refl, refl)
