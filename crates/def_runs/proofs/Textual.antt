-- `macro_rules! foo {} use foo as bar;`: the import finds the textual macro, and binds it as bar in macros alone; foo is bound nowhere.
use Rattle.std.proofs.Common.{◌≡◌, true, false, Some, None, [], ◌∷◌, refl, map}
use Rattle.item_tree.specs.declared.items.ImportAlias.TheVariants.{Alias}
use Rattle.item_tree.specs.declared.items.ImportKind.TheVariants.{Plain as PlainImport}
use Rattle.item_tree.specs.declared.items.ModItemKind.TheVariants.{MacroRules as RulesItem, Use}
use Rattle.item_tree.specs.declared.items.RawVisibility.TheVariants.{PubSelf}
use Rattle.item_tree.specs.declared.items.UseImport.{UseImport}
use Rattle.item_tree.specs.declared.mod_path.ModPath.{ModPath}
use Rattle.item_tree.specs.declared.mod_path.PathKind.TheVariants.{Plain}
use Rattle.tree_ids.specs.declared.name.Name.{Name}
use Rattle.item_tree.specs.declared.tree.ItemTree.{ItemTree}
use Rattle.def_ids.specs.declared.ids.Def.TheVariants.{Macro}
use Rattle.def_ids.specs.declared.ids.MacroId.{MacroId}
use Rattle.def_ids.specs.declared.ids.MacroId.TheVariants.{MacroRules}
use Rattle.def_ids.specs.declared.edition.Edition.TheVariants.{Edition2021}
use Rattle.def_interner.specs.declared.macro_def.MacroDefKind.TheVariants.{Declarative}
use Rattle.def_interner.specs.Session.{Session, MacroLoc, UseItem}
use Rattle.def_bindings.specs.declared.bindings.Binding.{Binding}
use Rattle.def_bindings.specs.declared.bindings.ImportOrExternCrate.TheVariants.{Import as ByImport}
use Rattle.def_bindings.specs.declared.bindings.Namespace.TheVariants.{Types, Values, Macros}
use Rattle.def_bindings.specs.declared.visibility.Visibility.{Visibility}
use Rattle.def_bindings.specs.declared.visibility.Visibility.TheVariants.{Module as In}
use Rattle.def_modules.specs.Maps.{textual_at}
use Rattle.def_rules.specs.Headline.{Answers}
use Rattle.def_rules.specs.InTurn.{LeavesInTurn}
use Rattle.def_rules.specs.Imports.{unresolved_imports}
use Rattle.def_rules.specs.Recording.{NoneReady}
use Rattle.def_rules.specs.Report.{Answer, IsOutcome}
use Rattle.def_rules.specs.Start.{start}
use Rattle.def_rules.specs.State.{Setting, Moment, Import, ImportDirective, Recorded, PutExplicit}
use Rattle.def_rules.specs.Steps.{Reaches, join, one, performs}
use Rattle.def_runs.proofs.RowLemmas.{answer_of, answers_without, are_bare, import_recorded, no_targets, none_leave_in_turn, settled_by_test}
use Rattle.def_runs.proofs.Rows.{crate_of, import_of, knowing, loc, module_at, not_recorded, position, recorded_from}
use Rattle.def_runs.proofs.Sessions.{gets_macro, gets_number, no_session, unchanged, with_item, with_macro}
use Rattle.def_runs.proofs.Trees.{items, named, node, tree_with}
use Rattle.def_runs.proofs.Vectors.{nothing_left}

abbrev pub foo : Name
foo = named 40

abbrev pub bar : Name
bar = named 41

-- `foo`
abbrev pub of_foo : ModPath
of_foo = record { kind = Plain; segments = foo ∷ [] }

-- `foo as bar`
abbrev pub as_bar : UseImport
as_bar = record { idx = 0; path = of_foo; kind = PlainImport; alias = Some (Alias bar) }

abbrev pub tree : ItemTree
tree = tree_with (node 0 (RulesItem foo) ∷ node 1 (Use PubSelf (as_bar ∷ [])) ∷ []) (items (0 ∷ 1 ∷ [])) refl

-- each macro by rules may be called as `m!(..)`, and in no other way
abbrev pub setting : Setting
setting = record (crate_of tree) { oracle = record (knowing tree) { rule_styles = λ file krate. record { 0 = 1 } } }

-- macro 0 by rules
abbrev pub the_macro : MacroId
the_macro = MacroRules (record { 0 = 0 })

-- foo is item 0, of the root: its own rules expand it, and it has no flags
abbrev pub foo_loc : MacroLoc
foo_loc = record { container = module_at 0; position = position 0; kind = Declarative (record { 0 = 1 }); flags = record { 0 = 0 }; edition = Edition2021 }

abbrev pub with_foo : Session
with_foo = with_macro the_macro foo_loc no_session

-- the `use` is item 1, of the root
abbrev pub session : Session
session = with_item UseItem 0 (loc 0 1) with_foo

-- the walk: the root is entered, foo is visited, and nothing put; the `use` is visited
abbrev pub walked : (m : Moment) × Reaches setting.oracle (start setting no_session) m
walked = (
  _,
  join (one (performs _ _ _ refl refl refl))
      (join (one (performs _ _ _ refl (with_foo, gets_macro the_macro foo_loc tt refl refl refl, _, refl, (with_foo, unchanged with_foo, (0, Some foo, refl, refl, refl))) refl))
      (one (performs _ _ _ refl (session, gets_number UseItem 0 refl refl, _, refl, (session, unchanged session, (0, refl, refl))) refl))),
)

abbrev pub walked_to : Moment
walked_to = walked.0

-- nothing is left to do but the import
idle : walked_to.tasks ≡ []
idle = refl

abbrev pub waiting : Import
waiting = record (import_of 0 1 0 PubSelf PlainImport of_foo) { written = as_bar }

it_waits : walked_to.state.imports ≡ not_recorded waiting ∷ []
it_waits = refl

-- no name is bound so far, and nothing has happened
nothing_happened : (walked_to.state.content.names (module_at 0) ≡ []) × (walked_to.events ≡ [])
nothing_happened = (refl, refl)

-- `foo` is recorded, and what its path gives is put in macros
abbrev pub recorded : (m : Moment) × Reaches setting.oracle walked_to m
recorded = (
  _,
  join (import_recorded setting.oracle walked_to (not_recorded waiting) [] refl (are_bare refl refl) refl refl)
      (one (performs _ _ _ refl refl refl)),
)

abbrev pub last : Moment
last = recorded.0

ran : Reaches setting.oracle (start setting no_session) last
ran = join walked.1 recorded.1

-- the import stays indeterminate, with macros
abbrev pub with_macros : ImportDirective
with_macros = recorded_from (record { types = false; values = false; macros = true }) waiting

it_stays : last.state.imports ≡ with_macros ∷ []
it_stays = refl

-- no import is unresolved
none_is_left : unresolved_imports last.state.imports ≡ []
none_is_left = refl

-- no import is ready: the path gives nothing new
settled : NoneReady setting.oracle last.state
settled = settled_by_test setting.oracle last.state refl

shown : IsOutcome last.state nothing_left
shown = record { imports = refl; macros = refl; edges = λ source. refl; targets = no_targets }

abbrev pub answered : Answer
answered = answer_of setting.oracle last.state nothing_left

-- no macro is asked
in_turn : LeavesInTurn setting.oracle (start setting no_session) last ran
unfolding ran import_recorded
in_turn = none_leave_in_turn ran refl

-- what is answered of this crate
textual_answers : Answers setting no_session session answered
textual_answers = answers_without setting no_session last nothing_left ran in_turn refl (are_bare refl refl) refl refl refl shown (λ source. refl) refl

-- bar of the root, visible in it, by import 0 of `use` 0
abbrev pub imported : Binding Visibility
imported = record { def = Macro the_macro; vis = In (module_at 0); import = Some (ByImport (record { use_id = record { 0 = 0 }; idx = 0 })) }

bar_in_macros : answered.content.binding (module_at 0) bar Macros ≡ Some imported
bar_in_macros = refl

bar_in_no_other : (answered.content.binding (module_at 0) bar Types ≡ None) × (answered.content.binding (module_at 0) bar Values ≡ None)
bar_in_no_other = (refl, refl)

-- no other name is bound, and foo is not
names_of_root : answered.content.names (module_at 0) ≡ bar ∷ []
names_of_root = refl

foo_not_in_macros : answered.content.binding (module_at 0) foo Macros ≡ None
foo_not_in_macros = refl

-- foo is the one textual macro of its name in the root, and bar is none
foo_is_textual : textual_at answered.map 0 foo ≡ the_macro ∷ []
foo_is_textual = refl

bar_is_not : textual_at answered.map 0 bar ≡ []
bar_is_not = refl

-- the position of item 0 leads to it, and that of item 1 to none
its_position : (answered.map.macro_at (position 0) ≡ Some the_macro) × (answered.map.macro_at (position 1) ≡ None)
its_position = (refl, refl)

-- it is no declaration of the root
no_declarations : map (λ m. m.declarations) answered.map.modules ≡ [] ∷ []
no_declarations = refl

-- the import was recorded, and what it binds was put; nothing else happened
all_that_happened : last.events ≡ Recorded waiting false ∷ PutExplicit (module_at 0) bar Macros imported ∷ []
all_that_happened = refl

nothing_is_reported : answered.diagnostics ≡ []
nothing_is_reported = refl

-- no name failed
none_failed : (map (λ m. m.failed bar) answered.map.modules ≡ false ∷ []) × (map (λ m. m.failed foo) answered.map.modules ≡ false ∷ [])
none_failed = (refl, refl)
