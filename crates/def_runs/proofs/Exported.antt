-- `mod m { #[rustc_builtin_macro] #[macro_export] macro_rules! foo {} }`, where no builtin has the name: foo is reported, and declared in the root all the same.
use Rattle.std.proofs.Common.{◌≡◌, Some, None, [], ◌∷◌, refl, map}
use Rattle.item_tree.specs.declared.attrs.Attr.{Attr}
use Rattle.item_tree.specs.declared.attrs.AttrsOrCfg.TheVariants.{Enabled}
use Rattle.item_tree.specs.declared.items.ItemNode.{ItemNode}
use Rattle.item_tree.specs.declared.items.ModItemKind.TheVariants.{MacroRules as RulesItem}
use Rattle.item_tree.specs.declared.mod_path.PathKind.TheVariants.{Plain}
use Rattle.tree_ids.specs.declared.name.Name.{Name}
use Rattle.item_tree.specs.declared.tree.ItemTree.{ItemTree}
use Rattle.item_tree.specs.KnownNames.{macro_export_name, rustc_builtin_macro_name}
use Rattle.def_ids.specs.declared.ids.Def.TheVariants.{Macro, Module as ModuleDef}
use Rattle.def_ids.specs.declared.expander.MacroExpander.TheVariants.{UnimplementedBuiltIn}
use Rattle.def_interner.specs.MacroKinds.{kind_of_expander}
use Rattle.def_interner.specs.Session.{Session, MacroLoc}
use Rattle.def_bindings.specs.declared.bindings.Binding.{Binding}
use Rattle.def_bindings.specs.declared.bindings.Namespace.TheVariants.{Macros}
use Rattle.def_bindings.specs.declared.visibility.Visibility.{Visibility}
use Rattle.def_bindings.specs.declared.visibility.Visibility.TheVariants.{Public}
use Rattle.def_modules.specs.Maps.{textual_at}
use Rattle.def_rules.specs.declared.diagnostics.DefDiagnosticKind.TheVariants.{UnimplementedBuiltinMacro}
use Rattle.def_rules.specs.Headline.{Answers}
use Rattle.def_rules.specs.InTurn.{LeavesInTurn}
use Rattle.def_rules.specs.Report.{Answer, IsOutcome}
use Rattle.def_rules.specs.Start.{start}
use Rattle.def_rules.specs.State.{Setting, Moment}
use Rattle.def_rules.specs.Steps.{Reaches, join, one, performs}
use Rattle.def_runs.proofs.HandedOn.{m}
use Rattle.def_runs.proofs.RowLemmas.{answer_of, answers_without, are_bare, no_targets, none_leave_in_turn}
use Rattle.def_runs.proofs.Rows.{crate_of, module_at, position}
use Rattle.def_runs.proofs.Sessions.{gets_macro, no_session, unchanged, with_macro}
use Rattle.def_runs.proofs.Textual.{foo, foo_loc, the_macro}
use Rattle.def_runs.proofs.Trees.{inline_mod, items, node, tree_with}
use Rattle.def_runs.proofs.Vectors.{nothing_left}

-- `#[NAME]`
abbrev pub marked_with : Name → Attr
marked_with name = record { path = record { kind = Plain; segments = name ∷ [] }; input = None; ctxt = record { 0 = 0 }; paths = None }

abbrev exported_macro : ItemNode
exported_macro = record (node 1 (RulesItem foo)) { attrs = Some (Enabled (record { list = marked_with rustc_builtin_macro_name ∷ marked_with macro_export_name ∷ [] })) }

abbrev tree : ItemTree
tree = tree_with (node 0 (inline_mod m (items (1 ∷ []))) ∷ exported_macro ∷ []) (items (0 ∷ [])) refl

abbrev setting : Setting
setting = crate_of tree

-- foo is item 1, of `m`
abbrev builtin_loc : MacroLoc
builtin_loc = record foo_loc { container = module_at 1; position = position 1; kind = kind_of_expander UnimplementedBuiltIn }

abbrev session : Session
session = with_macro the_macro builtin_loc no_session

-- the root is entered; `mod m` is visited, and `m` put in the root; it is entered, foo visited, and put in the root
abbrev run : (a : Moment) × Reaches setting.oracle (start setting no_session) a
run = (
  _,
  join (one (performs _ _ _ refl refl refl))
      (join (one (performs _ _ _ refl (no_session, unchanged no_session, _, refl, (no_session, unchanged no_session, refl)) refl))
      (join (one (performs _ _ _ refl refl refl))
      (join (one (performs _ _ _ refl refl refl))
      (join (one (performs _ _ _ refl (session, gets_macro the_macro builtin_loc tt refl refl refl, _, refl, (session, unchanged session, (0, Some foo, refl, refl, refl))) refl))
      (one (performs _ _ _ refl refl refl)))))),
)

abbrev last : Moment
last = run.0

shown : IsOutcome last.state nothing_left
shown = record { imports = refl; macros = refl; edges = λ source. refl; targets = no_targets }

abbrev answered : Answer
answered = answer_of setting.oracle last.state nothing_left

-- no macro is asked
in_turn : LeavesInTurn setting.oracle (start setting no_session) last run.1
in_turn = none_leave_in_turn run.1 refl

-- what is answered of this crate
exported_answers : Answers setting no_session session answered
exported_answers = answers_without setting no_session last nothing_left run.1 in_turn refl (are_bare refl refl) refl refl refl shown (λ source. refl) refl

-- macro 0 by rules, public, by declaration
abbrev held : Binding Visibility
held = record { def = Macro the_macro; vis = Public; import = None }

foo_in_the_root : answered.content.binding (module_at 0) foo Macros ≡ Some held
foo_in_the_root = refl

foo_not_in_m : answered.content.binding (module_at 1) foo Macros ≡ None
foo_not_in_m = refl

-- among declarations it is the root's, behind `m`
declared_in_the_root : map (λ d. d.declarations) answered.map.modules ≡ (ModuleDef (module_at 1) ∷ Macro the_macro ∷ []) ∷ [] ∷ []
declared_in_the_root = refl

-- as a textual macro it is that of `m`, which hands nothing on
textual_in_m : (textual_at answered.map 1 foo ≡ the_macro ∷ []) × (textual_at answered.map 0 foo ≡ [])
textual_in_m = (refl, refl)

it_is_reported : answered.diagnostics ≡ record { «module» = module_at 1; ast_id = position 1; kind = UnimplementedBuiltinMacro } ∷ []
it_is_reported = refl
