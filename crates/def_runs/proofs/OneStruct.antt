-- `pub struct S;`: it is numbered, recorded as a declaration, and bound in types and values.
use Rattle.std.proofs.Common.{◌≡◌, Some, None, [], ◌∷◌, refl}
use Rattle.tree_ids.specs.declared.name.Name.{Name}
use Rattle.item_tree.specs.declared.tree.ItemTree.{ItemTree}
use Rattle.def_ids.specs.declared.ids.Def.TheVariants.{Struct}
use Rattle.def_interner.specs.Session.{Session, StructItem}
use Rattle.def_bindings.specs.declared.bindings.Binding.{Binding}
use Rattle.def_bindings.specs.declared.bindings.Namespace.TheVariants.{Types, Values, Macros}
use Rattle.def_bindings.specs.declared.visibility.Visibility.{Visibility}
use Rattle.def_bindings.specs.declared.visibility.Visibility.TheVariants.{Public}
use Rattle.def_rules.specs.Headline.{Answers}
use Rattle.def_rules.specs.InTurn.{LeavesInTurn}
use Rattle.def_rules.specs.Report.{Answer, IsOutcome}
use Rattle.def_rules.specs.Start.{start}
use Rattle.def_rules.specs.State.{Setting, Moment, PutExplicit}
use Rattle.def_rules.specs.Steps.{Reaches, join, one, performs}
use Rattle.def_runs.proofs.RowLemmas.{answer_of, answers_without, are_bare, no_targets, none_leave_in_turn}
use Rattle.def_runs.proofs.Rows.{crate_of, loc, module_at}
use Rattle.def_runs.proofs.Sessions.{gets_number, no_session, unchanged, with_item}
use Rattle.def_runs.proofs.Trees.{items, named, node, tree_with, unit_struct}
use Rattle.def_runs.proofs.Vectors.{nothing_left}

abbrev pub S : Name
S = named 40

abbrev pub tree : ItemTree
tree = tree_with (node 0 (unit_struct S) ∷ []) (items (0 ∷ [])) refl

abbrev pub setting : Setting
setting = crate_of tree

-- the session after the run: struct 0 is item 0 of the root
abbrev pub session : Session
session = with_item StructItem 0 (loc 0 0) no_session

-- the walk of the root begins, the struct is visited, and its two entries are put
abbrev pub ran : (end : Moment) × Reaches setting.oracle (start setting no_session) end
ran = (
  _,
  join (one (performs _ _ _ refl refl refl))
      (join (one (performs _ _ _ refl (session, gets_number StructItem 0 refl refl, _, refl, (session, unchanged session, (0, refl, refl))) refl))
      (join (one (performs _ _ _ refl refl refl))
      (one (performs _ _ _ refl refl refl)))),
)

abbrev pub last : Moment
last = ran.0

shown : IsOutcome last.state nothing_left
shown = record { imports = refl; macros = refl; edges = λ source. refl; targets = no_targets }

abbrev pub answered : Answer
answered = answer_of setting.oracle last.state nothing_left

-- no macro is asked
in_turn : LeavesInTurn setting.oracle (start setting no_session) last ran.1
in_turn = none_leave_in_turn ran.1 refl

-- what is answered of this crate
one_struct_answers : Answers setting no_session session answered
one_struct_answers = answers_without setting no_session last nothing_left ran.1 in_turn refl (are_bare refl refl) refl refl refl shown (λ source. refl) refl

-- struct 0, public, by declaration
abbrev pub held : Binding Visibility
held = record { def = Struct (record { 0 = 0 }); vis = Public; import = None }

bound_in_types : answered.content.binding (module_at 0) S Types ≡ Some held
bound_in_types = refl

bound_in_values : answered.content.binding (module_at 0) S Values ≡ Some held
bound_in_values = refl

not_in_macros : answered.content.binding (module_at 0) S Macros ≡ None
not_in_macros = refl

-- both puts are events of the run
both_happened : last.events ≡ PutExplicit (module_at 0) S Types held ∷ PutExplicit (module_at 0) S Values held ∷ []
both_happened = refl
