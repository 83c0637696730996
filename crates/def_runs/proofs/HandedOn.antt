-- `#[macro_use] mod m { macro_rules! foo {} } use foo as bar;`: once `m` is walked its textual macro is the root's too, and the import finds it.
use Rattle.std.proofs.Common.{◌≡◌, Some, None, [], ◌∷◌, refl}
use Rattle.item_tree.specs.declared.attrs.AttrsOrCfg.TheVariants.{Enabled}
use Rattle.item_tree.specs.declared.items.ImportKind.TheVariants.{Plain as PlainImport}
use Rattle.item_tree.specs.declared.items.ItemNode.{ItemNode}
use Rattle.item_tree.specs.declared.items.ModItemKind.TheVariants.{MacroRules as RulesItem, Use}
use Rattle.item_tree.specs.declared.items.RawVisibility.TheVariants.{PubSelf}
use Rattle.item_tree.specs.declared.mod_path.PathKind.TheVariants.{Plain}
use Rattle.tree_ids.specs.declared.name.Name.{Name}
use Rattle.item_tree.specs.declared.tree.ItemTree.{ItemTree}
use Rattle.item_tree.specs.KnownNames.{macro_use_name}
use Rattle.def_interner.specs.Session.{Session, MacroLoc, UseItem}
use Rattle.def_bindings.specs.declared.bindings.Namespace.TheVariants.{Types, Macros}
use Rattle.def_modules.specs.Maps.{textual_at}
use Rattle.def_rules.specs.Headline.{Answers}
use Rattle.def_rules.specs.InTurn.{LeavesInTurn}
use Rattle.def_rules.specs.Report.{Answer, IsOutcome}
use Rattle.def_rules.specs.Start.{start}
use Rattle.def_rules.specs.State.{Setting, Moment, Import}
use Rattle.def_rules.specs.Steps.{Reaches, join, one, performs}
use Rattle.def_runs.proofs.RowLemmas.{answer_of, answers_without, are_bare, import_recorded, no_targets, none_leave_in_turn}
use Rattle.def_runs.proofs.Rows.{crate_of, import_of, knowing, loc, module_at, module_in_root, not_recorded, position}
use Rattle.def_runs.proofs.Sessions.{gets_macro, gets_number, no_session, unchanged, with_item, with_macro}
use Rattle.def_runs.proofs.Textual.{as_bar, bar, foo, foo_loc, imported, of_foo, the_macro}
use Rattle.def_runs.proofs.Trees.{inline_mod, items, named, node, tree_with}
use Rattle.def_runs.proofs.Vectors.{nothing_left}

abbrev pub m : Name
m = named 42

-- `mod m`, whose textual macros are handed on
abbrev handing_mod : ItemNode
handing_mod =
    record (node 0 (inline_mod m (items (1 ∷ [])))) {
      attrs = Some (Enabled (record { list = record { path = record { kind = Plain; segments = macro_use_name ∷ [] }; input = None; ctxt = record { 0 = 0 }; paths = None } ∷ [] }));
    }

abbrev tree : ItemTree
tree = tree_with (handing_mod ∷ node 1 (RulesItem foo) ∷ node 2 (Use PubSelf (as_bar ∷ [])) ∷ []) (items (0 ∷ 2 ∷ [])) refl

abbrev setting : Setting
setting = record (crate_of tree) { oracle = record (knowing tree) { rule_styles = λ file krate. record { 0 = 1 } } }

-- foo is item 1, of `m`
abbrev loc_in_m : MacroLoc
loc_in_m = record foo_loc { container = module_at 1; position = position 1 }

abbrev with_foo : Session
with_foo = with_macro the_macro loc_in_m no_session

abbrev session : Session
session = with_item UseItem 0 (loc 0 2) with_foo

-- the walk of `m`: the root is entered; `mod m` is visited, and `m` put in the root; it is entered, and foo visited
abbrev inside : (a : Moment) × Reaches setting.oracle (start setting no_session) a
inside = (
  _,
  join (one (performs _ _ _ refl refl refl))
      (join (one (performs _ _ _ refl (no_session, unchanged no_session, _, refl, (no_session, unchanged no_session, refl)) refl))
      (join (one (performs _ _ _ refl refl refl))
      (join (one (performs _ _ _ refl refl refl))
      (one (performs _ _ _ refl (with_foo, gets_macro the_macro loc_in_m tt refl refl refl, _, refl, (with_foo, unchanged with_foo, (0, Some foo, refl, refl, refl))) refl))))),
)

-- so far foo is a textual macro of `m` alone
in_m_alone : (textual_at inside.0.state.map 1 foo ≡ the_macro ∷ []) × (textual_at inside.0.state.map 0 foo ≡ [])
in_m_alone = (refl, refl)

-- behind its contents, what `m` has is brought into the root; then the `use` is visited
abbrev walked : (a : Moment) × Reaches setting.oracle inside.0 a
walked = (
  _,
  join (one (performs _ _ _ refl refl refl))
      (one (performs _ _ _ refl (session, gets_number UseItem 0 refl refl, _, refl, (session, unchanged session, (0, refl, refl))) refl)),
)

abbrev walked_to : Moment
walked_to = walked.0

idle : walked_to.tasks ≡ []
idle = refl

abbrev waiting : Import
waiting = record (import_of 0 2 0 PubSelf PlainImport of_foo) { written = as_bar }

it_waits : walked_to.state.imports ≡ not_recorded waiting ∷ []
it_waits = refl

-- the import is recorded, and what its path gives is put in macros
abbrev recorded : (a : Moment) × Reaches setting.oracle walked_to a
recorded = (
  _,
  join (import_recorded setting.oracle walked_to (not_recorded waiting) [] refl (are_bare refl refl) refl refl)
      (one (performs _ _ _ refl refl refl)),
)

abbrev last : Moment
last = recorded.0

ran : Reaches setting.oracle (start setting no_session) last
ran = join inside.1 (join walked.1 recorded.1)

shown : IsOutcome last.state nothing_left
shown = record { imports = refl; macros = refl; edges = λ source. refl; targets = no_targets }

abbrev answered : Answer
answered = answer_of setting.oracle last.state nothing_left

-- no macro is asked
in_turn : LeavesInTurn setting.oracle (start setting no_session) last ran
unfolding ran import_recorded
in_turn = none_leave_in_turn ran refl

-- what is answered of this crate
handed_on_answers : Answers setting no_session session answered
handed_on_answers = answers_without setting no_session last nothing_left ran in_turn refl (are_bare refl refl) refl refl refl shown (λ source. refl) refl

-- both modules have the macro, and neither binds its name
in_both : (textual_at answered.map 0 foo ≡ the_macro ∷ []) × (textual_at answered.map 1 foo ≡ the_macro ∷ [])
in_both = (refl, refl)

names_of_both : (answered.content.names (module_at 0) ≡ m ∷ bar ∷ []) × (answered.content.names (module_at 1) ≡ [])
names_of_both = (refl, refl)

bar_in_macros : answered.content.binding (module_at 0) bar Macros ≡ Some imported
bar_in_macros = refl

m_in_types : answered.content.binding (module_at 0) m Types ≡ Some (module_in_root 1)
m_in_types = refl

nothing_is_reported : answered.diagnostics ≡ []
nothing_is_reported = refl
