-- What is answered of a run's end, and what is reported.
use Rattle.std.specs.Prelude.{◌≡◌, ℕ, suc, Bool, true, false, cond, ◌&&◌, ◌||◌, nat_eq, List, [], ◌∷◌, ◌++◌, filter, map, Option, Some, Result, Ok, Err, Vec}
use Rattle.std.specs.declared.alloc.Global.{Global}
use Rattle.std.specs.List.{IsDistinct, flat_map}
use Rattle.std.specs.Map.{keys_of, lookup}
use Rattle.item_tree.specs.declared.mod_path.ModPath.{ModPath}
use Rattle.item_tree.specs.declared.mod_path.PathKind.{PathKind}
use Rattle.item_tree.specs.declared.mod_path.PathKind.TheVariants.{Plain, Abs}
use Rattle.tree_ids.specs.declared.name.Name.{Name}
use Rattle.item_tree.specs.KnownNames.{name_eq}
use Rattle.def_ids.specs.declared.ids.Def.{Def}
use Rattle.def_ids.specs.declared.ids.GlobId.{GlobId}
use Rattle.def_ids.specs.declared.ids.ModuleId.{ModuleId}
use Rattle.def_ids.specs.Equality.{glob_eq}
use Rattle.def_ids.specs.Ids.{is_same_module}
use Rattle.def_bindings.specs.declared.bindings.EdgeTo.{EdgeTo}
use Rattle.def_bindings.specs.declared.visibility.Visibility.{Visibility}
use Rattle.def_bindings.specs.Content.{Content}
use Rattle.def_modules.specs.MapState.{MapState, ModuleState}
use Rattle.def_modules.specs.MapView.{LocalView}
use Rattle.def_oracle.specs.declared.source_database.CallAnswer.{CallAnswer}
use Rattle.def_oracle.specs.declared.source_database.UnresolvedMacro.{UnresolvedMacro}
use Rattle.def_oracle.specs.Oracle.{Oracle}
use Rattle.def_rules.specs.declared.diagnostics.DefDiagnostic.{DefDiagnostic}
use Rattle.def_rules.specs.declared.diagnostics.DefDiagnosticKind.TheVariants.{UnresolvedImport, UnresolvedMacroCall}
use Rattle.def_rules.specs.declared.outcome.Edge.{Edge}
use Rattle.def_rules.specs.declared.outcome.LeftImport.{LeftImport}
use Rattle.def_rules.specs.declared.outcome.LeftMacro.{LeftMacro}
use Rattle.def_rules.specs.declared.outcome.LeftMacroKind.{LeftMacroKind}
use Rattle.def_rules.specs.declared.outcome.LeftMacroKind.TheVariants.{Fn, Attr as LeftAttr, Derive as LeftDerive}
use Rattle.def_rules.specs.declared.outcome.Outcome.{Outcome}
use Rattle.def_rules.specs.Directives.{call_answer}
use Rattle.def_rules.specs.Imports.{bound_name, unresolved_imports}
use Rattle.def_rules.specs.Globs.{Targets}
use Rattle.def_rules.specs.ProcMacros.{censored}
use Rattle.def_rules.specs.State.{State, Import, with_content}
use Rattle.def_rules.specs.Waiting.{MacroDirective, MacroDirectiveKind, FnLike, Attr, Derive}

-- all that a run answers
pub record Answer : Type 0 where
  pub map : MapState
  pub content : Content Visibility
  pub local : LocalView
  pub outcome : Outcome
  pub diagnostics : List DefDiagnostic

-- whether an import binds this name
abbrev pub binds_name : Option (Option Name) → Name → Bool
binds_name (Some (Some bound)) name = name_eq bound name
binds_name _ name = false

-- whether an import of the module with this number, and of this name, is left over
abbrev pub is_left : List Import → ℕ → Name → Bool
is_left [] index name = false
is_left (p ∷ rest) index name = (nat_eq p.scope.index index && binds_name (bound_name p.written) name) || is_left rest index name

-- the modules from this number on, each with the names that failed to import there
abbrev pub marked_from : List Import → ℕ → List ModuleState → List ModuleState
marked_from left index [] = []
marked_from left index (d ∷ ds) = record d { failed = is_left left index } ∷ marked_from left (suc index) ds

-- the map in which exactly the names of the imports left over are marked as failed
abbrev pub marked : MapState → List Import → MapState
marked m left = record m { modules = marked_from left 0 m.modules }

-- an import as it is left over
abbrev pub left_import : Import → LeftImport
left_import p = record { «module» = p.scope; ast_id = p.position; idx = p.written.idx; path = p.written.path }

-- how a macro that is left over is called, and by which path
abbrev pub left_kind : MacroDirectiveKind → LeftMacroKind × ModPath
left_kind (FnLike written) = (Fn, written.path)
left_kind (Attr written) = (LeftAttr written.id, written.attr.path)
left_kind (Derive written) = (LeftDerive written.id written.pos, written.path)

-- what waits for a macro, as it is left over
abbrev pub left_macro : MacroDirective → LeftMacro
left_macro d = record { «module» = d.scope; ast_id = d.position; kind = (left_kind d.kind).0; path = (left_kind d.kind).1; depth = d.depth }

-- an edge as it is listed
abbrev pub listed_edge : ModuleId → EdgeTo Visibility → Edge
listed_edge source edge = record { source = source; importer = edge.importer; vis = edge.vis; glob = edge.glob }

-- whether an edge leaves this module
abbrev pub leaves : ModuleId → Edge → Bool
leaves source edge = is_same_module source edge.source

-- each edge once: of each source its edges, in order of recording
abbrev pub AreEdges : Content Visibility → List Edge → Type 0
AreEdges content edges = (source : ModuleId) → filter (leaves source) edges ≡ map (listed_edge source) (content.edges source)

-- each recorded glob once, with what it was recorded with
pub record AreTargets (targets : Targets) (listed : List (GlobId × List Def)) : Type 0 where
  pub once : IsDistinct glob_eq (keys_of listed)
  pub all : (glob : GlobId) → lookup (glob_eq glob) listed ≡ targets glob

-- a glob's targets as a list
abbrev pub shown_targets : GlobId × Vec Def Global → GlobId × List Def
shown_targets t = (t.0, t.1.items)

-- how a run ended: the imports and macro calls left over, in order, the edges of globs, and what each glob was recorded with
pub record IsOutcome (end : State) (outcome : Outcome) : Type 0 where
  pub imports : outcome.imports.items ≡ map left_import (unresolved_imports end.imports)
  pub macros : outcome.macros.items ≡ map left_macro end.macros
  pub edges : AreEdges end.content outcome.edges.items
  pub targets : AreTargets end.targets (map shown_targets outcome.targets.items)

-- an import that is left over is reported
abbrev pub unresolved : Import → DefDiagnostic
unresolved p = record { «module» = p.scope; ast_id = p.position; kind = UnresolvedImport p.written.idx }

-- whether a path may begin with the name of a crate
abbrev pub may_name_crate : PathKind → Bool
may_name_crate Plain = true
may_name_crate Abs = true
may_name_crate _ = false

-- whether the first segment of a path passes
abbrev pub begins_with : (Name → Bool) → List Name → Bool
begins_with test [] = false
begins_with test (name ∷ names) = test name

-- an import is excused where its path begins with an extern crate that was not found, which is reported already
abbrev pub is_excused : (Name → Bool) → ModPath → Bool
is_excused missing path = may_name_crate path.kind && begins_with missing path.segments

-- what is reported of an import that is left over
abbrev pub import_report : (Name → Bool) → Import → List DefDiagnostic
import_report missing p = cond (is_excused missing p.written.path) [] (unresolved p ∷ [])

-- a macro that is left over is reported, with the path that was not found
abbrev pub unresolved_macro : MacroDirective → ModPath → DefDiagnostic
unresolved_macro d path = record { «module» = d.scope; ast_id = d.position; kind = UnresolvedMacroCall (left_kind d.kind).0 path }

-- what is reported of a call that is left over, by its answer: only that its macro is not found
abbrev pub answer_report : MacroDirective → Result CallAnswer UnresolvedMacro → List DefDiagnostic
answer_report d (Ok answer) = []
answer_report d (Err unresolved) = unresolved_macro d unresolved.path ∷ []

-- what is reported of what is left over, by its kind: of an item that waits nothing, of a derive that its macro is not found
abbrev pub kind_report : Oracle → State → MacroDirective → MacroDirectiveKind → List DefDiagnostic
kind_report oracle end d (FnLike written) = answer_report d (call_answer oracle end d written)
kind_report oracle end d (Attr written) = []
kind_report oracle end d (Derive written) = unresolved_macro d written.path ∷ []

-- what is reported of what waits for a macro and is left over
abbrev pub macro_report : Oracle → State → MacroDirective → List DefDiagnostic
macro_report oracle end d = kind_report oracle end d d.kind

-- the end, with the table that is answered
abbrev pub with_censored : State → State
with_censored end = with_content end (censored end)

-- with it, the macros left over are reported: they are asked once more
abbrev pub with_macro_reports : Oracle → State → State
with_macro_reports oracle end = record (with_censored end) { diagnostics = end.diagnostics ++ flat_map (macro_report oracle (with_censored end)) end.macros }

-- the diagnostics so far, and then those of the imports left over
abbrev pub with_import_reports : State → List DefDiagnostic
with_import_reports end = end.diagnostics ++ flat_map (import_report end.missing_crates) (unresolved_imports end.imports)

-- the run's diagnostics, then those of the macros left over, and then those of the imports
abbrev pub report : Oracle → State → List DefDiagnostic
report oracle end = with_import_reports (with_macro_reports oracle end)

-- the answer is what the end has, with the failed names marked, and what a root of procedural macros does not show
pub record IsAnswerOf (end : State) (answer : Answer) : Type 0 where
  pub map : answer.map ≡ marked end.map (unresolved_imports end.imports)
  pub content : answer.content ≡ censored end
  pub local : answer.local ≡ end.local
  pub outcome : IsOutcome end answer.outcome
