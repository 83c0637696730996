-- `macro_rules! foo {} foo!(); struct T;`, where the call gives `struct S;`: the call is settled where it stands, S is declared before T, and nothing waits.
use Rattle.std.proofs.Common.{◌≡◌, ℕ, Bool, true, false, Option, Some, None, Ok, Err, List, Result, [], ◌∷◌, refl, map}
use Rattle.tree_ids.specs.declared.ids.HirFileId.{HirFileId}
use Rattle.tree_ids.specs.declared.ids.HirFileId.TheVariants.{File, Macro as MacroFile}
use Rattle.item_tree.specs.declared.items.ExpandTo.TheVariants.{Items}
use Rattle.item_tree.specs.declared.items.ModItemKind.TheVariants.{MacroCall, MacroRules as RulesItem}
use Rattle.item_tree.specs.declared.mod_path.ModPath.{ModPath}
use Rattle.item_tree.specs.declared.mod_path.PathKind.TheVariants.{Plain}
use Rattle.tree_ids.specs.declared.name.Name.{Name}
use Rattle.item_tree.specs.declared.tree.ItemTree.{ItemTree}
use Rattle.def_ids.specs.declared.ids.Def.TheVariants.{Struct as StructDef}
use Rattle.def_ids.specs.declared.ids.ItemContainerId.TheVariants.{Module}
use Rattle.def_interner.specs.declared.macro_def.MacroDefId.{MacroDefId}
use Rattle.def_interner.specs.Session.{Session, ItemLoc, StructItem}
use Rattle.def_bindings.specs.declared.bindings.Binding.{Binding}
use Rattle.def_bindings.specs.declared.bindings.Namespace.TheVariants.{Types, Values}
use Rattle.def_bindings.specs.declared.visibility.Visibility.{Visibility}
use Rattle.def_bindings.specs.declared.visibility.Visibility.TheVariants.{Public}
use Rattle.def_oracle.specs.declared.source_database.CallAnswer.{CallAnswer}
use Rattle.def_oracle.specs.declared.source_database.UnresolvedMacro.{UnresolvedMacro}
use Rattle.def_oracle.specs.Queries.{PlainCall}
use Rattle.def_rules.specs.Headline.{Answers}
use Rattle.def_rules.specs.InTurn.{LeavesInTurn}
use Rattle.def_rules.specs.Report.{Answer, IsOutcome}
use Rattle.def_rules.specs.Start.{start}
use Rattle.def_rules.specs.State.{Setting, Moment}
use Rattle.def_rules.specs.Steps.{Reaches, join, one, performs}
use Rattle.def_runs.proofs.RowLemmas.{answer_of, answers_without, are_bare, no_targets, none_leave_in_turn}
use Rattle.def_runs.proofs.Rows.{crate_of, knowing, loc, module_at, position}
use Rattle.def_runs.proofs.Sessions.{gets_macro, gets_number, no_session, unchanged, with_item}
use Rattle.def_runs.proofs.Textual.{foo_loc, the_macro, with_foo}
use Rattle.def_runs.proofs.Trees.{items, named, node, tree_with, unit_struct}
use Rattle.def_runs.proofs.Vectors.{nothing_left}

abbrev pub foo : Name
foo = named 40

abbrev pub s : Name
s = named 41

abbrev pub t : Name
t = named 42

-- `foo`
abbrev pub of_foo : ModPath
of_foo = record { kind = Plain; segments = foo ∷ [] }

-- the file
abbrev pub tree : ItemTree
tree = tree_with (node 0 (RulesItem foo) ∷ node 1 (MacroCall of_foo Items (record { 0 = 0 })) ∷ node 2 (unit_struct t) ∷ []) (items (0 ∷ 1 ∷ 2 ∷ [])) refl

-- the expansion of the call
abbrev pub expansion : ItemTree
expansion = tree_with (node 0 (unit_struct s) ∷ []) (items (0 ∷ [])) refl

-- every file is the root file, and every call has this expansion
abbrev pub tree_of : HirFileId → Option ItemTree
tree_of (File file) = Some tree
tree_of (MacroFile call) = Some expansion

-- a call is number 0, if its macro is found
abbrev pub answer_to : PlainCall → List (Option MacroDefId) → Result CallAnswer UnresolvedMacro
answer_to call (Some found ∷ rest) = Ok (record { value = Some (record { 0 = 0 }); err = None; inner = [] })
answer_to call _ = Err (record { path = call.path })

-- the resolver is asked for the call's path; each macro by rules may be called as `m!(..)`
abbrev pub setting : Setting
setting = record (crate_of tree) { oracle = record (knowing tree) { item_tree = λ id. tree_of id.file; asked_paths = λ call. call.path ∷ []; macro_call = answer_to; rule_styles = λ file krate. record { 0 = 1 } } }

-- S is item 0 of the expansion
abbrev pub in_expansion : ItemLoc
in_expansion = record { container = Module (module_at 0); position = record { file = MacroFile (record { 0 = 0 }); value = record { 0 = 0 } } }

-- foo is macro 0, S struct 0, and T, item 2 of the file, struct 1
abbrev pub with_s : Session
with_s = with_item StructItem 0 in_expansion with_foo

abbrev pub session : Session
session = with_item StructItem 1 (loc 0 2) with_s

-- the walk: foo is defined; its call is expanded, and S declared; then T
abbrev pub walked : (m : Moment) × Reaches setting.oracle (start setting no_session) m
walked = (
  _,
  join (one (performs _ _ _ refl refl refl))
      (join (one (performs _ _ _ refl (with_foo, gets_macro the_macro foo_loc tt refl refl refl, _, refl, (with_foo, unchanged with_foo, (0, Some foo, refl, refl, refl))) refl))
      (join (one (performs _ _ _ refl (with_foo, unchanged with_foo, _, refl, (with_foo, unchanged with_foo, refl)) refl))
      (join (one (performs _ _ _ refl refl refl))
      (join (one (performs _ _ _ refl (with_s, gets_number StructItem 0 refl refl, _, refl, (with_s, unchanged with_s, (0, refl, refl))) refl))
      (join (one (performs _ _ _ refl refl refl))
      (join (one (performs _ _ _ refl refl refl))
      (join (one (performs _ _ _ refl (session, gets_number StructItem 1 refl refl, _, refl, (session, unchanged session, (1, refl, refl))) refl))
      (join (one (performs _ _ _ refl refl refl))
      (one (performs _ _ _ refl refl refl)))))))))),
)

abbrev pub last : Moment
last = walked.0

idle : last.tasks ≡ []
idle = refl

shown : IsOutcome last.state nothing_left
shown = record { imports = refl; macros = refl; edges = λ source. refl; targets = no_targets }

abbrev pub answered : Answer
answered = answer_of setting.oracle last.state nothing_left

-- no macro is asked
in_turn : LeavesInTurn setting.oracle (start setting no_session) last walked.1
in_turn = none_leave_in_turn walked.1 refl

-- what is answered of this crate
called_answers : Answers setting no_session session answered
called_answers = answers_without setting no_session last nothing_left walked.1 in_turn refl (are_bare refl refl) refl refl refl shown (λ source. refl) refl

-- struct 0, of the root, as its expansion says
abbrev pub declared : ℕ → Binding Visibility
declared n = record { def = StructDef (record { 0 = n }); vis = Public; import = None }

s_is_bound : (answered.content.binding (module_at 0) s Types ≡ Some (declared 0)) × (answered.content.binding (module_at 0) s Values ≡ Some (declared 0))
s_is_bound = (refl, refl)

t_is_bound : answered.content.binding (module_at 0) t Types ≡ Some (declared 1)
t_is_bound = refl

-- what the expansion declares comes before what stands behind the call
in_order : answered.content.names (module_at 0) ≡ s ∷ t ∷ []
in_order = refl

-- the call is recorded at its position, and no other
abbrev pub is_invoked : ℕ → ℕ → List Bool
is_invoked n call = map (λ m. m.invoked (position n) (record { 0 = call })) answered.map.modules

recorded : (is_invoked 1 0 ≡ true ∷ []) × (is_invoked 0 0 ≡ false ∷ []) × (is_invoked 1 1 ≡ false ∷ [])
recorded = (refl, refl, refl)

nothing_is_reported : answered.diagnostics ≡ []
nothing_is_reported = refl
