-- `mod a { pub struct T(u8); } use a::*;`: the constructor is seen in `a` alone, so the glob brings T in types alone.
use Rattle.std.proofs.Common.{◌≡◌, false, Option, Some, None, List, [], ◌∷◌, refl, lit<}
use Rattle.item_tree.specs.declared.items.CtorVisibility.TheVariants.{ValueNsCtorWithMinVis}
use Rattle.item_tree.specs.declared.items.ImportKind.TheVariants.{Glob as GlobImport}
use Rattle.item_tree.specs.declared.items.ModItemKind.{ModItemKind}
use Rattle.item_tree.specs.declared.items.ModItemKind.TheVariants.{Struct as StructKind}
use Rattle.item_tree.specs.declared.items.RawVisibility.TheVariants.{Public as RawPublic, PubSelf}
use Rattle.item_tree.specs.declared.mod_path.PathKind.TheVariants.{Plain}
use Rattle.tree_ids.specs.declared.name.Name.{Name}
use Rattle.item_tree.specs.declared.tree.ItemTree.{ItemTree}
use Rattle.def_ids.specs.declared.ids.Def.TheVariants.{Module as ModuleDef, Struct}
use Rattle.def_ids.specs.declared.ids.GlobId.{GlobId}
use Rattle.def_interner.specs.Session.{Session, StructItem, UseItem}
use Rattle.def_bindings.specs.declared.bindings.Binding.{Binding}
use Rattle.def_bindings.specs.declared.bindings.EdgeTo.{EdgeTo}
use Rattle.def_bindings.specs.declared.bindings.ImportOrExternCrate.{ImportOrExternCrate}
use Rattle.def_bindings.specs.declared.bindings.ImportOrExternCrate.TheVariants.{Glob}
use Rattle.def_bindings.specs.declared.bindings.Namespace.TheVariants.{Types, Values}
use Rattle.def_bindings.specs.declared.bindings.Slot.TheVariants.{Named}
use Rattle.def_bindings.specs.declared.visibility.Visibility.{Visibility}
use Rattle.def_bindings.specs.declared.visibility.Visibility.TheVariants.{Module as In, Public}
use Rattle.def_bindings.specs.Puts.{copied}
use Rattle.def_rules.specs.declared.outcome.Outcome.{Outcome}
use Rattle.def_rules.specs.Headline.{Answers}
use Rattle.def_rules.specs.InTurn.{LeavesInTurn}
use Rattle.def_rules.specs.Report.{Answer, IsOutcome}
use Rattle.def_rules.specs.Start.{start}
use Rattle.def_rules.specs.State.{Setting, Moment, Import, order, with_content, with_state}
use Rattle.def_rules.specs.Steps.{Reaches, join, one, performs}
use Rattle.def_rules.specs.Targets.{leaves_out, target_of}
use Rattle.def_runs.proofs.OutcomeLemmas.{edges_listed, listed, targets_listed}
use Rattle.def_runs.proofs.RowLemmas.{answer_of, answers, are_bare, copied_along, import_recorded, none_leave_in_turn}
use Rattle.def_runs.proofs.Rows.{bound, crate_of, glob_of_use, import_of, loc, module_at, module_in_root, not_recorded}
use Rattle.def_runs.proofs.Sessions.{gets_number, no_session, unchanged, with_item}
use Rattle.def_runs.proofs.TableLemmas.{closed_by_test, coherent_by_test, raised_by_test}
use Rattle.def_runs.proofs.Tables.{Bound, IsTable, Leaving}
use Rattle.def_runs.proofs.Trees.{inline_mod, items, named, node, tree_with, use_one}
use Rattle.def_runs.proofs.Vectors.{vec_of}

abbrev a : Name
a = named 40

abbrev T : Name
T = named 41

-- `pub struct T(..)` with one field that is written without a visibility
abbrev tuple_struct : ModItemKind
tuple_struct = StructKind T RawPublic (ValueNsCtorWithMinVis (PubSelf ∷ []))

abbrev tree : ItemTree
tree =
    tree_with
    (node 0 (inline_mod a (items (1 ∷ []))) ∷ node 1 tuple_struct ∷ node 2 (use_one PubSelf GlobImport (record { kind = Plain; segments = a ∷ [] })) ∷ [])
    (items (0 ∷ 2 ∷ []))
    refl

abbrev setting : Setting
setting = crate_of tree

-- T is struct 0, in module 1; the `use` stands in the root
abbrev with_struct : Session
with_struct = with_item StructItem 0 (loc 1 1) no_session

abbrev session : Session
session = with_item UseItem 0 (loc 0 2) with_struct

-- the walk: the root is entered; `mod a` is visited, and `a` put in the root; it is entered, T is visited, and put in types and in values; the `use` is visited
abbrev walked : (m : Moment) × Reaches setting.oracle (start setting no_session) m
walked = (
  _,
  join (one (performs _ _ _ refl refl refl))
      (join (one (performs _ _ _ refl (no_session, unchanged no_session, _, refl, (no_session, unchanged no_session, refl)) refl))
      (join (one (performs _ _ _ refl refl refl))
      (join (one (performs _ _ _ refl refl refl))
      (join (one (performs _ _ _ refl (with_struct, gets_number StructItem 0 refl refl, _, refl, (with_struct, unchanged with_struct, (0, refl, refl))) refl))
      (join (one (performs _ _ _ refl refl refl))
      (join (one (performs _ _ _ refl refl refl))
      (one (performs _ _ _ refl (session, gets_number UseItem 0 refl refl, _, refl, (session, unchanged session, (0, refl, refl))) refl)))))))),
)

abbrev walked_to : Moment
walked_to = walked.0

abbrev waiting : Import
waiting = import_of 0 2 0 PubSelf GlobImport (record { kind = Plain; segments = a ∷ [] })

it_waits : walked_to.state.imports ≡ not_recorded waiting ∷ []
it_waits = refl

-- the glob and its edge
abbrev glob : GlobId
glob = glob_of_use 0

abbrev edge : EdgeTo Visibility
edge = record { importer = module_at 0; vis = In (module_at 0); glob = glob }

-- the glob is recorded: one entry is put, and then the edge stands
abbrev recorded : (m : Moment) × Reaches setting.oracle walked_to m
recorded = (
  _,
  join (import_recorded setting.oracle walked_to (not_recorded waiting) [] refl (are_bare refl refl) refl refl)
      (join (one (performs _ _ _ refl refl refl))
      (one (performs _ _ _ refl refl refl))),
)

abbrev recorded_to : Moment
recorded_to = recorded.0

-- the constructor does not travel along the edge
abbrev last : Moment
last = with_state recorded_to (with_content recorded_to.state (copied (order recorded_to.state) (module_at 1) edge (Named T Values) recorded_to.state.content))

ran : Reaches setting.oracle (start setting no_session) last
ran = join walked.1 (join recorded.1 (copied_along setting.oracle recorded_to (module_at 1) 0 edge (Named T Values) refl))

nothing_changed : last.state.content ≡ recorded_to.state.content
nothing_changed = refl

-- T, as visible as this
abbrev struct_in : Visibility → Option ImportOrExternCrate → Binding Visibility
struct_in vis import = record { def = Struct (record { 0 = 0 }); vis = vis; import = import }

-- all that is bound: in the root T in types alone
abbrev rows : List Bound
rows =
    bound 0 T Types (struct_in (In (module_at 0)) (Some (Glob glob))) ∷ bound 1 T Values (struct_in (In (module_at 1)) None)
    ∷ bound 1 T Types (struct_in Public None) ∷ bound 0 a Types (module_in_root 1) ∷ []

abbrev leaving : List Leaving
leaving = record { source = module_at 1; edges = edge ∷ [] } ∷ []

is_table : IsTable rows leaving last.state.content
is_table = record { binding = refl; unnamed = refl; edges = refl }

abbrev outcome : Outcome
outcome =
    record {
      limit_met = false;
      imports = vec_of [] (lit< tt);
      macros = vec_of [] (lit< tt);
      edges = vec_of (listed leaving) (lit< tt);
      targets = vec_of ((glob, vec_of (ModuleDef (module_at 1) ∷ []) (lit< tt)) ∷ []) (lit< tt);
    }

shown : IsOutcome last.state outcome
shown = record { imports = refl; macros = refl; edges = edges_listed leaving refl; targets = targets_listed ((glob, ModuleDef (module_at 1) ∷ []) ∷ []) refl }

abbrev answered : Answer
answered = answer_of setting.oracle last.state outcome

-- no macro is asked
in_turn : LeavesInTurn setting.oracle (start setting no_session) last ran
unfolding ran import_recorded copied_along
in_turn = none_leave_in_turn ran refl

-- what is answered of this crate
private_answers : Answers setting no_session session answered
private_answers =
    answers setting no_session last outcome ran in_turn refl (are_bare refl refl) refl refl refl shown
    (closed_by_test rows leaving last.state.content is_table (order last.state) (leaves_out last.state) refl)
    (coherent_by_test rows leaving last.state.content is_table (order last.state) (leaves_out last.state) (target_of last.state.map.id last.state.targets) refl)
    (raised_by_test rows leaving last.state.content is_table (order last.state) refl)

-- the constructor is not bound in the root
not_in_values : answered.content.binding (module_at 0) T Values ≡ None
not_in_values = refl
