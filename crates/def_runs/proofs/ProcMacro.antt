-- `#[proc_macro] pub fn f() {} pub struct S;` in a crate of procedural macros: f is put in values, its macro in macros, and f is taken out again; in the answer the macro stays public, and S is seen in the crate alone.
use Rattle.std.proofs.Common.{◌≡◌, ◌∙◌, Bool, true, false, cond, Option, Some, None, option_map, [], ◌∷◌, refl, sym, ap, subst, map}
use Rattle.item_tree.specs.declared.attrs.AttrsOrCfg.TheVariants.{Enabled}
use Rattle.item_tree.specs.declared.items.ItemNode.{ItemNode}
use Rattle.item_tree.specs.declared.items.ModItemKind.TheVariants.{Function as FunctionNode}
use Rattle.item_tree.specs.declared.items.RawVisibility.TheVariants.{Public as WrittenPublic}
use Rattle.item_tree.specs.declared.tree.ItemTree.{ItemTree}
use Rattle.item_tree.specs.KnownNames.{proc_macro_name}
use Rattle.tree_ids.specs.declared.name.Name.{Name}
use Rattle.def_ids.specs.declared.edition.Edition.TheVariants.{Edition2021}
use Rattle.def_ids.specs.declared.expander.CustomProcMacroExpander.TheVariants.{Id}
use Rattle.def_ids.specs.declared.expander.ProcMacroUse.TheVariants.{Bang}
use Rattle.def_ids.specs.declared.ids.Def.TheVariants.{Function, Macro, Struct}
use Rattle.def_ids.specs.declared.ids.FunctionId.{FunctionId}
use Rattle.def_ids.specs.declared.ids.MacroId.TheVariants.{ProcMacro}
use Rattle.def_ids.specs.declared.ids.ProcMacroId.{ProcMacroId}
use Rattle.def_interner.specs.declared.macro_def.MacroDefKind.TheVariants.{ProcMacro as ByProcMacro}
use Rattle.def_interner.specs.Session.{Session, FunctionItem, MacroLoc, StructItem}
use Rattle.def_bindings.specs.declared.bindings.Binding.{Binding}
use Rattle.def_bindings.specs.declared.bindings.Namespace.{Namespace}
use Rattle.def_bindings.specs.declared.bindings.Namespace.TheVariants.{Types, Values, Macros}
use Rattle.def_bindings.specs.declared.visibility.Visibility.{Visibility}
use Rattle.def_bindings.specs.declared.visibility.Visibility.TheVariants.{Module as In, PubCrate, Public}
use Rattle.def_bindings.specs.Content.{Content}
use Rattle.def_oracle.specs.declared.source_database.CrateData.{CrateData}
use Rattle.def_laws.proofs.LeftOutLaws.{censors_alike, left_out_along}
use Rattle.def_rules.specs.Headline.{Answers}
use Rattle.def_rules.specs.InTurn.{LeavesInTurn}
use Rattle.def_rules.specs.ProcMacros.{censored_binding, crate_only, is_declared_macro}
use Rattle.def_rules.specs.Report.{Answer, IsOutcome}
use Rattle.def_rules.specs.Start.{start}
use Rattle.def_rules.specs.State.{Setting, Moment, PutExplicit, TookOut}
use Rattle.def_rules.specs.Steps.{Reaches, join, one, performs}
use Rattle.def_rules.specs.Targets.{is_censored}
use Rattle.def_runs.proofs.Exported.{marked_with}
use Rattle.def_runs.proofs.RowLemmas.{answer_of, answers_without, are_bare, no_targets, none_leave_in_turn}
use Rattle.def_runs.proofs.Rows.{crate_of, knowing, loc, module_at, position}
use Rattle.def_runs.proofs.Sessions.{gets_macro, gets_number, no_session, unchanged, with_item, with_macro}
use Rattle.def_runs.proofs.Trees.{items, named, node, tree_with, unit_struct}
use Rattle.def_runs.proofs.Vectors.{nothing_left}

abbrev pub f : Name
f = named 40

abbrev pub s : Name
s = named 41

-- `#[proc_macro] pub fn f() {}`
abbrev pub macro_function : ItemNode
macro_function = record (node 0 (FunctionNode f WrittenPublic)) { attrs = Some (Enabled (record { list = marked_with proc_macro_name ∷ [] })) }

abbrev pub tree : ItemTree
tree = tree_with (macro_function ∷ node 1 (unit_struct s) ∷ []) (items (0 ∷ 1 ∷ [])) refl

-- the crate is one of procedural macros, and depends on no other
abbrev of_macros : CrateData
of_macros = record { root_file = record { 0 = 0 }; proc_macro = true; lang = None; deps = [] }

-- one macro was built for it: f, which number 7 expands, and which is not switched off
abbrev pub setting : Setting
setting = record (crate_of tree) { oracle = record (knowing tree) { crate_data = λ krate. Some of_macros; proc_macros = λ krate. (f, 7, false) ∷ [] } }

-- the function and the macro that it exports
abbrev the_function : FunctionId
the_function = record { 0 = 0 }

abbrev the_macro : ProcMacroId
the_macro = record { 0 = 0 }

-- the function is item 0, of the root
abbrev with_f : Session
with_f = with_item FunctionItem 0 (loc 0 0) no_session

-- the macro is item 0, too: it is called as `f!(..)`, and expanded by what was built
abbrev f_loc : MacroLoc
f_loc = record { container = module_at 0; position = position 0; kind = ByProcMacro (Id 7) Bang; flags = record { 0 = 0 }; edition = Edition2021 }

abbrev with_both : Session
with_both = with_macro (ProcMacro the_macro) f_loc with_f

-- the struct is item 1
abbrev pub session : Session
session = with_item StructItem 0 (loc 0 1) with_both

-- the root is entered, f is visited, and put in values, and its macro in macros
abbrev walked : (m : Moment) × Reaches setting.oracle (start setting no_session) m
walked = (
  _,
  join (one (performs _ _ _ refl refl refl))
      (join (one (performs _ _ _ refl (with_f, gets_number FunctionItem 0 refl refl, _, refl, (with_both, gets_macro (ProcMacro the_macro) f_loc tt refl refl refl, (0, refl, (the_macro, refl, refl)))) refl))
      (join (one (performs _ _ _ refl refl refl))
      (one (performs _ _ _ refl refl refl)))),
)

abbrev walked_to : Moment
walked_to = walked.0

-- f is taken out of values; S is visited, and put in types and values
abbrev goes_on : (m : Moment) × Reaches setting.oracle walked_to m
goes_on = (
  _,
  join (one (performs _ _ _ refl refl refl))
      (join (one (performs _ _ _ refl (session, gets_number StructItem 0 refl refl, _, refl, (session, unchanged session, (0, refl, refl))) refl))
      (join (one (performs _ _ _ refl refl refl))
      (one (performs _ _ _ refl refl refl)))),
)

abbrev pub last : Moment
last = goes_on.0

ran : Reaches setting.oracle (start setting no_session) last
ran = join walked.1 goes_on.1

shown : IsOutcome last.state nothing_left
shown = record { imports = refl; macros = refl; edges = λ source. refl; targets = no_targets }

abbrev pub answered : Answer
answered = answer_of setting.oracle last.state nothing_left

-- no macro is asked
in_turn : LeavesInTurn setting.oracle (start setting no_session) last ran
unfolding ran
in_turn = none_leave_in_turn ran refl

-- what is answered of this crate
proc_macro_answers : Answers setting no_session session answered
proc_macro_answers = answers_without setting no_session last nothing_left ran in_turn refl (are_bare refl refl) refl refl refl shown (λ source. refl) refl

-- each by declaration: function 0, procedural macro 0, and struct 0
abbrev pub of_function : Visibility → Binding Visibility
of_function vis = record { def = Function the_function; vis = vis; import = None }

abbrev pub of_macro : Visibility → Binding Visibility
of_macro vis = record { def = Macro (ProcMacro the_macro); vis = vis; import = None }

abbrev pub of_struct : Visibility → Binding Visibility
of_struct vis = record { def = Struct (record { 0 = 0 }); vis = vis; import = None }

-- for a while f is in values, public
f_was_in_values : walked_to.state.content.binding (module_at 0) f Values ≡ Some (of_function Public)
f_was_in_values = refl

-- in the answer it is not, nor in types
f_not_in_values : (answered.content.binding (module_at 0) f Values ≡ None) × (answered.content.binding (module_at 0) f Types ≡ None)
f_not_in_values = (refl, refl)

-- its macro is public
f_in_macros : answered.content.binding (module_at 0) f Macros ≡ Some (of_macro Public)
f_in_macros = refl

-- S is public at the end of the run, but in the answer it is seen in the crate alone
s_was_public : (last.state.content.binding (module_at 0) s Types ≡ Some (of_struct Public)) × (last.state.content.binding (module_at 0) s Values ≡ Some (of_struct Public))
s_was_public = (refl, refl)

s_is_not : (answered.content.binding (module_at 0) s Types ≡ Some (of_struct PubCrate)) × (answered.content.binding (module_at 0) s Values ≡ Some (of_struct PubCrate))
s_is_not = (refl, refl)

-- f keeps its place among names by its macro
names_of_root : answered.content.names (module_at 0) ≡ f ∷ s ∷ []
names_of_root = refl

-- function and macro lead to each other
they_are_paired : (answered.map.krate.macro_of_function the_function ≡ Some the_macro) × (answered.map.krate.function_of_macro the_macro ≡ Some the_function)
they_are_paired = (refl, refl)

-- the position of item 0 leads to the macro, and that of item 1 to none
its_position : (answered.map.macro_at (position 0) ≡ Some (ProcMacro the_macro)) × (answered.map.macro_at (position 1) ≡ None)
its_position = (refl, refl)

-- no helpers are shown of it, as it is no derive
no_helpers : answered.map.krate.exported_helpers (ProcMacro the_macro) ≡ None
no_helpers = refl

-- among declarations the function stays, and its macro stands behind it
declared_in_the_root : map (λ d. d.declarations) answered.map.modules ≡ (Function the_function ∷ Macro (ProcMacro the_macro) ∷ Struct (record { 0 = 0 }) ∷ []) ∷ []
declared_in_the_root = refl

all_that_happened : last.events
    ≡ PutExplicit (module_at 0) f Values (of_function Public) ∷ PutExplicit (module_at 0) f Macros (of_macro Public) ∷ TookOut (module_at 0) f the_function
    ∷ PutExplicit (module_at 0) s Types (of_struct Public) ∷ PutExplicit (module_at 0) s Values (of_struct Public) ∷ []
all_that_happened = refl

nothing_is_reported : answered.diagnostics ≡ []
nothing_is_reported = refl

-- What is no answer

-- what is seen in the crate alone is not public
not_public : (vis : Visibility) → crate_only vis ≡ Public → ⊥
not_public (In m) public = cc
not_public PubCrate public = cc
not_public Public public = cc

-- what a root of procedural macros shows as public is such a macro
is_macro : (was : Binding Visibility) → (censored_binding was).vis ≡ Public → is_declared_macro (censored_binding was) ≡ true
is_macro was = by (is_declared_macro was) refl
  where
    by : (spared : Bool) → is_declared_macro was ≡ spared → (cond spared was (record was { vis = crate_only was.vis })).vis ≡ Public → is_declared_macro (cond spared was (record was { vis = crate_only was.vis })) ≡ true
    by true is public = is
    by false is public = absurd (not_public was.vis public)

-- so where it shows what was bound, if anything was
is_macro_if_some : (was : Option (Binding Visibility)) (held : Binding Visibility) → option_map censored_binding was ≡ Some held → held.vis ≡ Public → is_declared_macro held ≡ true
is_macro_if_some None held is public = absurd (cc is)
is_macro_if_some (Some was) held is public =
    let same : censored_binding was ≡ held = cc in
    subst (λ (b : Binding Visibility). b.vis ≡ Public → is_declared_macro b ≡ true) same (is_macro was) public

module _ (after : Session) (answer : Answer) (answers : Answers setting no_session after answer) where
  -- at the end of each run the root is that of a crate of procedural macros
  root_is_censored : is_censored answers.run.end.state (module_at 0) ≡ true
  root_is_censored = censors_alike (left_out_along {oracle = setting.oracle} answers.run.runs) (module_at 0)

  -- each answer shows there what such a root shows of what its run bound
  pub root_shows : (name : Name) (ns : Namespace) → answer.content.binding (module_at 0) name ns ≡ option_map censored_binding (answers.run.end.state.content.binding (module_at 0) name ns)
  root_shows name ns =
      let was : Option (Binding Visibility) = answers.run.end.state.content.binding (module_at 0) name ns in
      ap (λ (c : Content Visibility). c.binding (module_at 0) name ns) answers.answered.content ∙ ap (λ is. cond is (option_map censored_binding was) was) root_is_censored

  -- so nothing but a procedural macro is public there, in any answer
  public_is_macro : (name : Name) (ns : Namespace) (held : Binding Visibility) → answer.content.binding (module_at 0) name ns ≡ Some held → held.vis ≡ Public → is_declared_macro held ≡ true
  public_is_macro name ns held bound = is_macro_if_some (answers.run.end.state.content.binding (module_at 0) name ns) held (sym (root_shows name ns) ∙ bound)

  s_is_public_in_none : (ns : Namespace) → answer.content.binding (module_at 0) s ns ≡ Some (of_struct Public) → ⊥
  s_is_public_in_none ns bound = let wrong = public_is_macro s ns (of_struct Public) bound refl in cc

  f_is_public_in_values_of_none : answer.content.binding (module_at 0) f Values ≡ Some (of_function Public) → ⊥
  f_is_public_in_values_of_none bound = let wrong = public_is_macro f Values (of_function Public) bound refl in cc

-- an answer that shows the table as the run leaves it is none: S is public in it
abbrev all_shown : Answer
all_shown = record answered { content = last.state.content }

all_shown_is_no_answer : Answers setting no_session session all_shown → ⊥
all_shown_is_no_answer answers = s_is_public_in_none session all_shown answers Types refl

-- nor is one that shows it as it was before f was taken out: f is a public function in it
abbrev f_left_in : Answer
f_left_in = record answered { content = walked_to.state.content }

f_left_in_is_no_answer : Answers setting no_session session f_left_in → ⊥
f_left_in_is_no_answer answers = f_is_public_in_values_of_none session f_left_in answers refl
