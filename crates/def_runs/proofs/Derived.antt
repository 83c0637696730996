-- `#[rustc_builtin_macro] macro derive {} macro_rules! foo {} #[derive(foo)] struct T;`, where foo may be called by derives: T waits; once all is walked foo is called by the list, T declared, and the call's expansion walked.
use Rattle.std.proofs.Common.{◌≡◌, Option, Some, None, [], ◌∷◌, Contains, refl, subst, map, lit<, false}
use Rattle.either.specs.declared.Either.TheVariants.{Left}
use Rattle.item_tree.specs.declared.attrs.Attr.{Attr as AttrNode}
use Rattle.item_tree.specs.declared.attrs.AttrsOrCfg.TheVariants.{Enabled}
use Rattle.tree_ids.specs.declared.ids.HirFileId.{HirFileId}
use Rattle.tree_ids.specs.declared.ids.HirFileId.TheVariants.{File, Macro as MacroFile}
use Rattle.tree_ids.specs.declared.ids.MacroCallId.{MacroCallId}
use Rattle.item_tree.specs.declared.items.ItemNode.{ItemNode}
use Rattle.item_tree.specs.declared.items.ModItemKind.TheVariants.{MacroRules as RulesItem, Macro2 as MacroItem}
use Rattle.item_tree.specs.declared.items.RawVisibility.TheVariants.{PubSelf}
use Rattle.tree_ids.specs.declared.name.Name.{Name}
use Rattle.item_tree.specs.declared.tree.ItemTree.{ItemTree}
use Rattle.item_tree.specs.KnownNames.{rustc_builtin_macro_name}
use Rattle.def_ids.specs.declared.ids.ItemContainerId.TheVariants.{Module}
use Rattle.def_ids.specs.declared.ids.MacroId.{MacroId}
use Rattle.def_ids.specs.declared.ids.MacroId.TheVariants.{Macro2}
use Rattle.def_ids.specs.declared.expander.BuiltinAttr.TheVariants.{Derive as BuiltinDerive}
use Rattle.def_interner.specs.declared.macro_def.MacroDefKind.TheVariants.{Declarative, BuiltInAttr}
use Rattle.def_interner.specs.Session.{Session, MacroLoc, StructItem}
use Rattle.def_rules.specs.Directives.{Stays, told}
use Rattle.def_rules.specs.Headline.{Answers}
use Rattle.def_rules.specs.Fallback.{IsQuiet}
use Rattle.def_rules.specs.InTurn.{LeavesInTurn, parts}
use Rattle.def_rules.specs.Report.{Answer, IsOutcome}
use Rattle.def_rules.specs.Start.{start}
use Rattle.def_rules.specs.State.{Setting, Moment}
use Rattle.def_rules.specs.Waiting.{Attr, Expansion, MacroDirective}
use Rattle.def_rules.specs.Steps.{Reaches, join, one, performs}
use Rattle.def_runs.proofs.Called.{foo, of_foo, t}
use Rattle.def_runs.proofs.Exported.{marked_with}
use Rattle.def_runs.proofs.RowLemmas.{answer_of, answers_without, are_bare, asked_in_turn, expansion_taken, macro_asked, no_targets, none_leave_in_turn, quiet_without}
use Rattle.def_runs.proofs.Rows.{crate_of, knowing, loc, module_at, position}
use Rattle.def_runs.proofs.Sessions.{gets_macro, gets_number, no_session, unchanged, with_item, with_macro}
use Rattle.def_runs.proofs.Textual.{foo_loc as called_loc, the_macro}
use Rattle.def_runs.proofs.Trees.{items, named, node, root_file, tree_with, unit_struct}
use Rattle.def_runs.proofs.Vectors.{nothing_left}

abbrev derive : Name
derive = named 50

-- `#[derive(foo)]`
abbrev list : AttrNode
list = record (marked_with derive) { paths = Some ((of_foo, record { 0 = 0 }) ∷ []) }

abbrev builtin : ItemNode
builtin = record (node 0 (MacroItem derive PubSelf)) { attrs = Some (Enabled (record { list = marked_with rustc_builtin_macro_name ∷ [] })) }

abbrev with_list : ItemNode
with_list = record (node 2 (unit_struct t)) { attrs = Some (Enabled (record { list = list ∷ [] })) }

abbrev tree : ItemTree
tree = tree_with (builtin ∷ node 1 (RulesItem foo) ∷ with_list ∷ []) (items (0 ∷ 1 ∷ 2 ∷ [])) refl

-- no expansion has items
abbrev tree_of : HirFileId → Option ItemTree
tree_of (File file) = Some tree
tree_of (MacroFile call) = None

-- the call of a derive
abbrev derived : MacroCallId
derived = record { 0 = 1 }

-- each builtin attribute is `derive`, each macro by rules may be called by derives alone, and the call of an attribute is number 0
abbrev setting : Setting
setting =
    record (crate_of tree) {
      oracle = record (knowing tree) { item_tree = λ id. tree_of id.file; rule_styles = λ file krate. record { 0 = 4 }; find_builtin_attr = λ name. Some BuiltinDerive; make_derive_call = λ query. derived };
    }

-- `derive` is number 0 among `macro` items
abbrev the_derive : MacroId
the_derive = Macro2 (record { 0 = 0 })

abbrev derive_loc : MacroLoc
derive_loc = record called_loc { kind = BuiltInAttr BuiltinDerive }

abbrev with_derive : Session
with_derive = with_macro the_derive derive_loc no_session

-- foo is number 0 among macros by rules
abbrev foo_loc : MacroLoc
foo_loc = record called_loc { position = position 1; kind = Declarative (record { 0 = 4 }) }

abbrev with_foo : Session
with_foo = with_macro the_macro foo_loc with_derive

-- and T among structs
abbrev session : Session
session = with_item StructItem 0 (loc 0 2) with_foo

-- the walk: both macros are defined, and T waits
abbrev walked : (m : Moment) × Reaches setting.oracle (start setting no_session) m
walked = (
  _,
  join (one (performs _ _ _ refl refl refl))
      (join (one (performs _ _ _ refl (with_derive, gets_macro the_derive derive_loc tt refl refl refl, _, refl, (with_derive, unchanged with_derive, (0, refl, refl))) refl))
      (join (one (performs _ _ _ refl refl refl))
      (join (one (performs _ _ _ refl (with_foo, gets_macro the_macro foo_loc tt refl refl refl, _, refl, (with_foo, unchanged with_foo, (0, Some foo, refl, refl, refl))) refl))
      (one (performs _ _ _ refl refl refl))))),
)

abbrev walked_to : Moment
walked_to = walked.0

-- nothing is left to do but what waits
idle : walked_to.tasks ≡ []
idle = refl

-- T as it waits
abbrev waiting : MacroDirective
waiting =
    record {
      scope = module_at 0;
      container = Module (module_at 0);
      position = position 2;
      depth = 1;
      kind = Attr (record { tree = root_file; item = record { 0 = 2 }; id = record { 0 = 0 }; attr = list });
    }

it_waits : walked_to.state.macros ≡ waiting ∷ []
it_waits = refl

-- it has its turn: `derive` is found
abbrev asked : (m : Moment) × Reaches setting.oracle walked_to m
asked = (_, macro_asked setting.oracle walked_to waiting [] refl refl)

abbrev asked_to : Moment
asked_to = asked.0

-- its list is tried, and T declared
abbrev tried : (m : Moment) × Reaches setting.oracle asked_to m
tried = (
  _,
  join (one (performs _ _ _ refl refl refl))
      (join (one (performs _ _ _ refl (session, gets_number StructItem 0 refl refl, _, refl, (session, unchanged session, (0, refl, refl))) refl))
      (join (one (performs _ _ _ refl refl refl))
      (one (performs _ _ _ refl refl refl)))),
)

abbrev tried_to : Moment
tried_to = tried.0

-- foo's expansion is to be walked beside T, one level deeper than one of the attribute
abbrev pending : Expansion
pending = record { scope = module_at 0; container = Module (module_at 0); depth = 2; call = derived; replaces = None }

it_is_given : (tried_to.state.macros ≡ []) × (tried_to.state.expansions ≡ pending ∷ []) × (tried_to.state.active (position 2) ≡ record { 0 = 0 } ∷ [])
it_is_given = (refl, refl, refl)

-- it is walked
abbrev expanded : (m : Moment) × Reaches setting.oracle tried_to m
expanded = (_, join (expansion_taken setting.oracle tried_to pending [] refl refl refl) (one (performs _ _ _ refl refl refl)))

abbrev last : Moment
last = expanded.0

ran : Reaches setting.oracle (start setting no_session) last
ran = join walked.1 (join asked.1 (join tried.1 expanded.1))

shown : IsOutcome last.state nothing_left
shown = record { imports = refl; macros = refl; edges = λ source. refl; targets = no_targets }

abbrev answered : Answer
answered = answer_of setting.oracle last.state nothing_left

-- where it is asked, nothing else moves
quiet : IsQuiet setting.oracle walked_to.state
quiet = quiet_without setting.oracle walked_to.state (are_bare refl refl) refl (λ source. refl)

-- so it leaves in turn
in_turn : LeavesInTurn setting.oracle (start setting no_session) last ran
unfolding ran expansion_taken
in_turn = parts (none_leave_in_turn walked.1 refl) (parts (asked_in_turn setting.oracle walked_to waiting [] refl refl quiet) (parts (none_leave_in_turn tried.1 refl) (none_leave_in_turn expanded.1 refl)))

-- what is answered of this crate
derived_answers : Answers setting no_session session answered
derived_answers = answers_without setting no_session last nothing_left ran in_turn refl (are_bare refl refl) refl refl refl shown (λ source. refl) refl

-- both names are bound, and nothing else is
names_of_root : answered.content.names (module_at 0) ≡ derive ∷ t ∷ []
names_of_root = refl

-- the list is recorded at the item, with the attribute's call and the derive's
recorded : map (λ m. m.derives (position 2) (record { 0 = 0 })) answered.map.modules ≡ (record { call = record { 0 = 0 }; calls = Some (Left derived) ∷ [] } ∷ []) ∷ []
recorded = refl

nothing_is_reported : answered.diagnostics ≡ []
nothing_is_reported = refl

-- stopping where T still waits is no answer
stopping_at_the_walk_is_no_answer : (after : Session) (answer : Answer) (answers : Answers setting no_session after answer) → answer.outcome.limit_met ≡ false → answers.run.end ≡ walked_to → ⊥
stopping_at_the_walk_is_no_answer after answer answers unmet early =
    let at_end : (told setting.oracle walked_to.state waiting).turn ≡ Stays =
    subst (λ (m : Moment). Contains m.state.macros waiting → (told setting.oracle m.state waiting).turn ≡ Stays) early
    (λ left. (answers.settled unmet).macros.stay waiting left) (0, lit< tt, refl) in
    cc
