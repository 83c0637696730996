-- `mod a { pub struct S; } use a::S; use a::T;`: S is imported in types and values, and T is left over and reported.
use Rattle.std.proofs.Common.{◌≡◌, ℕ, true, false, Some, None, [], ◌∷◌, refl, map, lit<}
use Rattle.item_tree.specs.declared.items.ImportKind.TheVariants.{Plain as PlainImport}
use Rattle.item_tree.specs.declared.items.RawVisibility.TheVariants.{PubSelf}
use Rattle.item_tree.specs.declared.mod_path.ModPath.{ModPath}
use Rattle.item_tree.specs.declared.mod_path.PathKind.TheVariants.{Plain}
use Rattle.tree_ids.specs.declared.name.Name.{Name}
use Rattle.item_tree.specs.declared.tree.ItemTree.{ItemTree}
use Rattle.def_ids.specs.declared.ids.Def.TheVariants.{Struct}
use Rattle.def_interner.specs.Session.{Session, StructItem, UseItem}
use Rattle.def_bindings.specs.declared.bindings.Binding.{Binding}
use Rattle.def_bindings.specs.declared.bindings.ImportOrExternCrate.TheVariants.{Import as ByImport}
use Rattle.def_bindings.specs.declared.bindings.Namespace.TheVariants.{Types, Values}
use Rattle.def_bindings.specs.declared.visibility.Visibility.{Visibility}
use Rattle.def_bindings.specs.declared.visibility.Visibility.TheVariants.{Module as In, Public}
use Rattle.def_rules.specs.declared.diagnostics.DefDiagnosticKind.TheVariants.{UnresolvedImport}
use Rattle.def_rules.specs.declared.outcome.LeftImport.{LeftImport}
use Rattle.def_rules.specs.declared.outcome.Outcome.{Outcome}
use Rattle.def_rules.specs.Headline.{Answers}
use Rattle.def_rules.specs.InTurn.{LeavesInTurn}
use Rattle.def_rules.specs.Imports.{unresolved_imports}
use Rattle.def_rules.specs.Recording.{NoneReady}
use Rattle.def_rules.specs.Report.{Answer, IsOutcome}
use Rattle.def_rules.specs.Start.{start}
use Rattle.def_rules.specs.State.{Setting, Moment, Import, ImportDirective}
use Rattle.def_rules.specs.Steps.{Reaches, join, one, performs}
use Rattle.def_runs.proofs.RowLemmas.{answer_of, answers_without, are_bare, import_recorded, no_targets, none_leave_in_turn, settled_by_test}
use Rattle.def_runs.proofs.Rows.{crate_of, import_of, loc, module_at, module_in_root, not_recorded, position, recorded_from}
use Rattle.def_runs.proofs.Sessions.{gets_number, no_session, unchanged, with_item}
use Rattle.def_runs.proofs.Trees.{inline_mod, items, named, node, tree_with, unit_struct, use_one}
use Rattle.def_runs.proofs.Vectors.{vec_of}

abbrev pub a : Name
a = named 40

abbrev pub S : Name
S = named 41

abbrev pub T : Name
T = named 42

-- `a::NAME`
abbrev pub in_a : Name → ModPath
in_a name = record { kind = Plain; segments = a ∷ name ∷ [] }

abbrev pub tree : ItemTree
tree =
    tree_with
    (node 0 (inline_mod a (items (1 ∷ []))) ∷ node 1 (unit_struct S) ∷ node 2 (use_one PubSelf PlainImport (in_a S)) ∷ node 3 (use_one PubSelf PlainImport (in_a T)) ∷ [])
    (items (0 ∷ 2 ∷ 3 ∷ []))
    refl

abbrev pub setting : Setting
setting = crate_of tree

-- struct 0 is item 1, of module 1; the two `use`s are items 2 and 3, of the root
abbrev pub with_struct : Session
with_struct = with_item StructItem 0 (loc 1 1) no_session

abbrev pub with_first : Session
with_first = with_item UseItem 0 (loc 0 2) with_struct

-- the session after the run
abbrev pub session : Session
session = with_item UseItem 1 (loc 0 3) with_first

-- the walk: the root is entered; `mod a` is visited, and `a` put in the root; it is entered, S is visited, and put in types and in values; the two `use`s are visited
abbrev pub walked : (m : Moment) × Reaches setting.oracle (start setting no_session) m
walked = (
  _,
  join (one (performs _ _ _ refl refl refl))
      (join (one (performs _ _ _ refl (no_session, unchanged no_session, _, refl, (no_session, unchanged no_session, refl)) refl))
      (join (one (performs _ _ _ refl refl refl))
      (join (one (performs _ _ _ refl refl refl))
      (join (one (performs _ _ _ refl (with_struct, gets_number StructItem 0 refl refl, _, refl, (with_struct, unchanged with_struct, (0, refl, refl))) refl))
      (join (one (performs _ _ _ refl refl refl))
      (join (one (performs _ _ _ refl refl refl))
      (join (one (performs _ _ _ refl (with_first, gets_number UseItem 0 refl refl, _, refl, (with_first, unchanged with_first, (0, refl, refl))) refl))
      (one (performs _ _ _ refl (session, gets_number UseItem 1 refl refl, _, refl, (session, unchanged session, (1, refl, refl))) refl))))))))),
)

abbrev pub walked_to : Moment
walked_to = walked.0

-- nothing is left to do but the imports
idle : walked_to.tasks ≡ []
idle = refl

-- an import of the root, by its item, its `use` and its last segment
abbrev pub waiting : ℕ → ℕ → Name → Import
waiting item number name = import_of 0 item number PubSelf PlainImport (in_a name)

both_wait : walked_to.state.imports ≡ not_recorded (waiting 2 0 S) ∷ not_recorded (waiting 3 1 T) ∷ []
both_wait = refl

-- `a::S` is recorded, and what its path gives is put in types and values
abbrev pub recorded : (m : Moment) × Reaches setting.oracle walked_to m
recorded = (
  _,
  join (import_recorded setting.oracle walked_to (not_recorded (waiting 2 0 S)) (not_recorded (waiting 3 1 T) ∷ []) refl (are_bare refl refl) refl refl)
      (join (one (performs _ _ _ refl refl refl))
      (one (performs _ _ _ refl refl refl))),
)

abbrev pub last : Moment
last = recorded.0

ran : Reaches setting.oracle (start setting no_session) last
ran = join walked.1 recorded.1

-- S stays indeterminate, with two namespaces
abbrev s_with_two : ImportDirective
s_with_two = recorded_from (record { types = true; values = true; macros = false }) (waiting 2 0 S)

both_stay : last.state.imports ≡ not_recorded (waiting 3 1 T) ∷ s_with_two ∷ []
both_stay = refl

-- T alone is unresolved
t_is_left : unresolved_imports last.state.imports ≡ waiting 3 1 T ∷ []
t_is_left = refl

-- no import is ready: T's path gives nothing, and S's nothing new
settled : NoneReady setting.oracle last.state
settled = settled_by_test setting.oracle last.state refl

-- import 0 of item 3, with its path
abbrev pub left : LeftImport
left = record { «module» = module_at 0; ast_id = position 3; idx = 0; path = in_a T }

abbrev pub one_left : Outcome
one_left = record { limit_met = false; imports = vec_of (left ∷ []) (lit< tt); macros = vec_of [] (lit< tt); edges = vec_of [] (lit< tt); targets = vec_of [] (lit< tt) }

shown : IsOutcome last.state one_left
shown = record { imports = refl; macros = refl; edges = λ source. refl; targets = no_targets }

abbrev pub answered : Answer
answered = answer_of setting.oracle last.state one_left

-- no macro is asked
in_turn : LeavesInTurn setting.oracle (start setting no_session) last ran
unfolding ran import_recorded
in_turn = none_leave_in_turn ran refl

-- what is answered of this crate
plain_answers : Answers setting no_session session answered
plain_answers = answers_without setting no_session last one_left ran in_turn refl (are_bare refl refl) refl refl refl shown (λ source. refl) refl

-- module 1 is `a`, in the root
two_modules : map (λ m. m.name) answered.map.modules ≡ None ∷ Some a ∷ []
two_modules = refl

its_parent : answered.map.parents ≡ None ∷ Some 0 ∷ []
its_parent = refl

-- S of module 1, public, by declaration
abbrev pub declared : Binding Visibility
declared = record { def = Struct (record { 0 = 0 }); vis = Public; import = None }

-- S of the root, visible in it, by import 0 of `use` 0
abbrev pub imported : Binding Visibility
imported = record { def = Struct (record { 0 = 0 }); vis = In (module_at 0); import = Some (ByImport (record { use_id = record { 0 = 0 }; idx = 0 })) }

s_in_types : answered.content.binding (module_at 0) S Types ≡ Some imported
s_in_types = refl

s_in_values : answered.content.binding (module_at 0) S Values ≡ Some imported
s_in_values = refl

a_in_types : answered.content.binding (module_at 0) a Types ≡ Some (module_in_root 1)
a_in_types = refl

s_of_a_in_types : answered.content.binding (module_at 1) S Types ≡ Some declared
s_of_a_in_types = refl

s_of_a_in_values : answered.content.binding (module_at 1) S Values ≡ Some declared
s_of_a_in_values = refl

-- no other name is bound, and T is not
names_of_root : answered.content.names (module_at 0) ≡ a ∷ S ∷ []
names_of_root = refl

names_of_a : answered.content.names (module_at 1) ≡ S ∷ []
names_of_a = refl

t_not_in_types : answered.content.binding (module_at 0) T Types ≡ None
t_not_in_types = refl

-- T is the one name that failed in the root
t_failed : map (λ m. m.failed T) answered.map.modules ≡ true ∷ false ∷ []
t_failed = refl

s_did_not : map (λ m. m.failed S) answered.map.modules ≡ false ∷ false ∷ []
s_did_not = refl

-- one diagnostic: import 0 of item 3 does not resolve
t_is_reported : answered.diagnostics ≡ record { «module» = module_at 0; ast_id = position 3; kind = UnresolvedImport 0 } ∷ []
t_is_reported = refl
