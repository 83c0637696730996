-- `mod a { pub use crate::b::*; pub struct X; } mod b { pub use crate::a::*; pub struct Y; }`: two modules that glob each other both bind both names.
use Rattle.std.proofs.Common.{◌≡◌, ℕ, false, Option, Some, None, List, [], ◌∷◌, refl, true, lit<}
use Rattle.item_tree.specs.declared.items.ImportKind.TheVariants.{Glob as GlobImport}
use Rattle.item_tree.specs.declared.items.RawVisibility.TheVariants.{Public as RawPublic}
use Rattle.item_tree.specs.declared.mod_path.ModPath.{ModPath}
use Rattle.item_tree.specs.declared.mod_path.PathKind.TheVariants.{Crate}
use Rattle.tree_ids.specs.declared.name.Name.{Name}
use Rattle.item_tree.specs.declared.tree.ItemTree.{ItemTree}
use Rattle.def_ids.specs.declared.ids.Def.TheVariants.{Module as ModuleDef, Struct}
use Rattle.def_ids.specs.declared.ids.GlobId.{GlobId}
use Rattle.def_interner.specs.Session.{Session, StructItem, UseItem}
use Rattle.def_bindings.specs.declared.bindings.Binding.{Binding}
use Rattle.def_bindings.specs.declared.bindings.EdgeTo.{EdgeTo}
use Rattle.def_bindings.specs.declared.bindings.ImportOrExternCrate.{ImportOrExternCrate}
use Rattle.def_bindings.specs.declared.bindings.ImportOrExternCrate.TheVariants.{Glob}
use Rattle.def_bindings.specs.declared.bindings.Namespace.TheVariants.{Types, Values}
use Rattle.def_bindings.specs.declared.bindings.Slot.TheVariants.{Named}
use Rattle.def_bindings.specs.declared.visibility.Visibility.{Visibility}
use Rattle.def_bindings.specs.declared.visibility.Visibility.TheVariants.{Public}
use Rattle.def_rules.specs.declared.outcome.Outcome.{Outcome}
use Rattle.def_rules.specs.Headline.{Answers}
use Rattle.def_rules.specs.InTurn.{LeavesInTurn}
use Rattle.def_rules.specs.Recording.{NoneReady}
use Rattle.def_rules.specs.Report.{Answer, IsOutcome, listed_edge}
use Rattle.def_rules.specs.Start.{start}
use Rattle.def_rules.specs.State.{Setting, Moment, Import, ImportDirective, order}
use Rattle.def_rules.specs.Steps.{Reaches, join, one, performs}
use Rattle.def_rules.specs.Targets.{leaves_out, target_of}
use Rattle.def_runs.proofs.OutcomeLemmas.{edges_listed, listed, targets_listed}
use Rattle.def_runs.proofs.RowLemmas.{answer_of, answers, are_bare, copied_along, import_recorded, none_leave_in_turn, settled_by_test}
use Rattle.def_runs.proofs.Rows.{bound, crate_of, glob_of_use, import_of, loc, module_at, module_in_root, not_recorded, recorded_from}
use Rattle.def_runs.proofs.Sessions.{gets_number, no_session, unchanged, with_item}
use Rattle.def_runs.proofs.TableLemmas.{closed_by_test, coherent_by_test, raised_by_test}
use Rattle.def_runs.proofs.Tables.{Bound, IsTable, Leaving}
use Rattle.def_runs.proofs.Trees.{inline_mod, items, named, node, tree_with, unit_struct, use_one}
use Rattle.def_runs.proofs.Vectors.{vec_of}

abbrev a : Name
a = named 40

abbrev b : Name
b = named 41

abbrev X : Name
X = named 42

abbrev Y : Name
Y = named 43

-- `crate::NAME`
abbrev in_crate : Name → ModPath
in_crate name = record { kind = Crate; segments = name ∷ [] }

abbrev tree : ItemTree
tree =
    tree_with
    (node 0 (inline_mod a (items (1 ∷ 2 ∷ []))) ∷ node 1 (use_one RawPublic GlobImport (in_crate b)) ∷ node 2 (unit_struct X)
    ∷ node 3 (inline_mod b (items (4 ∷ 5 ∷ []))) ∷ node 4 (use_one RawPublic GlobImport (in_crate a)) ∷ node 5 (unit_struct Y) ∷ [])
    (items (0 ∷ 3 ∷ []))
    refl

abbrev setting : Setting
setting = crate_of tree

-- X is struct 0, in module 1, and Y struct 1, in module 2; so stand the two `use`s
abbrev with_use : Session
with_use = with_item UseItem 0 (loc 1 1) no_session

abbrev with_x : Session
with_x = with_item StructItem 0 (loc 1 2) with_use

abbrev with_both_uses : Session
with_both_uses = with_item UseItem 1 (loc 2 4) with_x

-- the session after the run
abbrev session : Session
session = with_item StructItem 1 (loc 2 5) with_both_uses

-- the walk: the root is entered; `mod a` is visited, and `a` put in the root; it is entered, its `use` and X are visited, and X is put in types and in values; so `mod b`
abbrev walked : (m : Moment) × Reaches setting.oracle (start setting no_session) m
walked = (
  _,
  join (one (performs _ _ _ refl refl refl))
      (join (one (performs _ _ _ refl (no_session, unchanged no_session, _, refl, (no_session, unchanged no_session, refl)) refl))
      (join (one (performs _ _ _ refl refl refl))
      (join (one (performs _ _ _ refl refl refl))
      (join (one (performs _ _ _ refl (with_use, gets_number UseItem 0 refl refl, _, refl, (with_use, unchanged with_use, (0, refl, refl))) refl))
      (join (one (performs _ _ _ refl (with_x, gets_number StructItem 0 refl refl, _, refl, (with_x, unchanged with_x, (0, refl, refl))) refl))
      (join (one (performs _ _ _ refl refl refl))
      (join (one (performs _ _ _ refl refl refl))
      (join (one (performs _ _ _ refl (with_x, unchanged with_x, _, refl, (with_x, unchanged with_x, refl)) refl))
      (join (one (performs _ _ _ refl refl refl))
      (join (one (performs _ _ _ refl refl refl))
      (join (one (performs _ _ _ refl (with_both_uses, gets_number UseItem 1 refl refl, _, refl, (with_both_uses, unchanged with_both_uses, (1, refl, refl))) refl))
      (join (one (performs _ _ _ refl (session, gets_number StructItem 1 refl refl, _, refl, (session, unchanged session, (1, refl, refl))) refl))
      (join (one (performs _ _ _ refl refl refl))
      (one (performs _ _ _ refl refl refl))))))))))))))),
)

abbrev walked_to : Moment
walked_to = walked.0

idle : walked_to.tasks ≡ []
idle = refl

-- an import of a module, by the module, its item, its `use` and its segment
abbrev waiting : ℕ → ℕ → ℕ → Name → Import
waiting at item number name = import_of at item number RawPublic GlobImport (in_crate name)

both_wait : walked_to.state.imports ≡ not_recorded (waiting 1 1 0 b) ∷ not_recorded (waiting 2 4 1 a) ∷ []
both_wait = refl

-- the globs, and their edges
abbrev glob : ℕ → GlobId
glob number = glob_of_use number

abbrev edge : ℕ → ℕ → EdgeTo Visibility
edge importer number = record { importer = module_at importer; vis = Public; glob = glob number }

-- the glob of `a` is recorded: Y is put in module 1, and then the edge stands from 2 to 1
abbrev first : (m : Moment) × Reaches setting.oracle walked_to m
first = (
  _,
  join (import_recorded setting.oracle walked_to (not_recorded (waiting 1 1 0 b)) (not_recorded (waiting 2 4 1 a) ∷ []) refl (are_bare refl refl) refl refl)
      (join (one (performs _ _ _ refl refl refl))
      (join (one (performs _ _ _ refl refl refl))
      (one (performs _ _ _ refl refl refl)))),
)

abbrev first_to : Moment
first_to = first.0

-- an import that stays indeterminate with types
abbrev indeterminate : ℕ → ℕ → ℕ → Name → ImportDirective
indeterminate at item number name = recorded_from (record { types = true; values = false; macros = false }) (waiting at item number name)

-- the glob of `b` is recorded: X is put in module 2, Y stays as it is declared there, and then the edge stands from 1 to 2
abbrev second : (m : Moment) × Reaches setting.oracle first_to m
second = (
  _,
  join (import_recorded setting.oracle first_to (not_recorded (waiting 2 4 1 a)) (indeterminate 1 1 0 b ∷ []) refl (are_bare refl refl) refl refl)
      (join (one (performs _ _ _ refl refl refl))
      (join (one (performs _ _ _ refl refl refl))
      (join (one (performs _ _ _ refl refl refl))
      (join (one (performs _ _ _ refl refl refl))
      (one (performs _ _ _ refl refl refl)))))),
)

abbrev second_to : Moment
second_to = second.0

-- X travels on from 2 to 1, in types and in values, and changes nothing: it is declared there
abbrev travelled : (m : Moment) × Reaches setting.oracle second_to m
travelled = (
  _,
  join (copied_along setting.oracle second_to (module_at 2) 0 (edge 1 0) (Named X Types) refl)
      (copied_along setting.oracle second_to (module_at 2) 0 (edge 1 0) (Named X Values) refl),
)

abbrev last : Moment
last = travelled.0

ran : Reaches setting.oracle (start setting no_session) last
ran = join walked.1 (join first.1 (join second.1 travelled.1))

-- a public struct, by declaration or by a glob
abbrev struct_by : ℕ → Option ImportOrExternCrate → Binding Visibility
struct_by number import = record { def = Struct (record { 0 = number }); vis = Public; import = import }

-- all that is bound: both structs in both modules, and the modules in the root
abbrev rows : List Bound
rows =
    bound 2 X Values (struct_by 0 (Some (Glob (glob 1)))) ∷ bound 2 X Types (struct_by 0 (Some (Glob (glob 1))))
    ∷ bound 1 Y Values (struct_by 1 (Some (Glob (glob 0)))) ∷ bound 1 Y Types (struct_by 1 (Some (Glob (glob 0))))
    ∷ bound 2 Y Values (struct_by 1 None) ∷ bound 2 Y Types (struct_by 1 None) ∷ bound 0 b Types (module_in_root 2)
    ∷ bound 1 X Values (struct_by 0 None) ∷ bound 1 X Types (struct_by 0 None) ∷ bound 0 a Types (module_in_root 1) ∷ []

-- both edges
abbrev leaving : List Leaving
leaving = record { source = module_at 1; edges = edge 2 1 ∷ [] } ∷ record { source = module_at 2; edges = edge 1 0 ∷ [] } ∷ []

is_table : IsTable rows leaving last.state.content
is_table = record { binding = refl; unnamed = refl; edges = refl }

both_stay : last.state.imports ≡ indeterminate 1 1 0 b ∷ indeterminate 2 4 1 a ∷ []
both_stay = refl

-- no import is ready: both are indeterminate, with types, and their paths give nothing more
settled : NoneReady setting.oracle last.state
settled = settled_by_test setting.oracle last.state refl

-- both edges and both globs are answered, and nothing is left over
abbrev outcome : Outcome
outcome =
    record {
      limit_met = false;
      imports = vec_of [] (lit< tt);
      macros = vec_of [] (lit< tt);
      edges = vec_of (listed leaving) (lit< tt);
      targets = vec_of ((glob 1, vec_of (ModuleDef (module_at 1) ∷ []) (lit< tt)) ∷ (glob 0, vec_of (ModuleDef (module_at 2) ∷ []) (lit< tt)) ∷ []) (lit< tt);
    }

shown : IsOutcome last.state outcome
shown = record { imports = refl; macros = refl; edges = edges_listed leaving refl; targets = targets_listed ((glob 1, ModuleDef (module_at 1) ∷ []) ∷ (glob 0, ModuleDef (module_at 2) ∷ []) ∷ []) refl }

-- `edge 1 2 pub 1.0` and `edge 2 1 pub 0.0`
both_edges : listed leaving ≡ listed_edge (module_at 1) (edge 2 1) ∷ listed_edge (module_at 2) (edge 1 0) ∷ []
both_edges = refl

abbrev answered : Answer
answered = answer_of setting.oracle last.state outcome

-- no macro is asked
in_turn : LeavesInTurn setting.oracle (start setting no_session) last ran
unfolding ran import_recorded copied_along
in_turn = none_leave_in_turn ran refl

-- what is answered of this crate
cycle_answers : Answers setting no_session session answered
cycle_answers =
    answers setting no_session last outcome ran in_turn refl (are_bare refl refl) refl refl refl shown
    (closed_by_test rows leaving last.state.content is_table (order last.state) (leaves_out last.state) refl)
    (coherent_by_test rows leaving last.state.content is_table (order last.state) (leaves_out last.state) (target_of last.state.map.id last.state.targets) refl)
    (raised_by_test rows leaving last.state.content is_table (order last.state) refl)

-- nothing is reported
nothing_is_reported : answered.diagnostics ≡ []
nothing_is_reported = refl
