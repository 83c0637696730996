-- Macro calls: which macro a call finds where it stands, and what its answer does.
use Rattle.std.specs.Prelude.{ℕ, suc, ◌-◌, ◌^◌, Bool, cond, ◌||◌, nat_eq, nat_lt, List, [], ◌∷◌, ◌++◌, map, Option, None, Some, option_and_then, unwrap_or, Result, Ok, Err}
use Rattle.std.specs.Option.{option_or}
use Rattle.tree_ids.specs.declared.ids.FileAstId.{FileAstId}
use Rattle.tree_ids.specs.declared.ids.HirFileId.TheVariants.{Macro as MacroFile}
use Rattle.tree_ids.specs.declared.ids.InFile.{InFile}
use Rattle.tree_ids.specs.declared.ids.MacroCallId.{MacroCallId}
use Rattle.tree_ids.specs.declared.ids.TreeId.{TreeId}
use Rattle.item_tree.specs.declared.items.ItemNode.{ItemNode}
use Rattle.tree_ids.specs.declared.name.Name.{Name}
use Rattle.item_tree.specs.Paths.{as_ident}
use Rattle.def_ids.specs.declared.ids.MacroId.{MacroId}
use Rattle.def_ids.specs.declared.ids.ModuleId.{ModuleId}
use Rattle.def_interner.specs.declared.macro_def.MacroDefId.{MacroDefId}
use Rattle.def_interner.specs.MacroKinds.{is_fn_like}
use Rattle.def_interner.specs.Session.{macro_def}
use Rattle.def_modules.specs.Maps.{limit_of, with_helper, with_module}
use Rattle.def_modules.specs.MapState.{MapState, ShownHelper}
use Rattle.def_modules.specs.Scopes.{with_invocation}
use Rattle.def_oracle.specs.declared.source_database.CallAnswer.{CallAnswer}
use Rattle.def_oracle.specs.declared.source_database.UnresolvedMacro.{UnresolvedMacro}
use Rattle.def_oracle.specs.Oracle.{Meaning, Oracle}
use Rattle.def_oracle.specs.Queries.{PlainCall}
use Rattle.def_readings.specs.Directories.{Directory, root_directory}
use Rattle.def_paths.specs.OuterMaps.{first_of_each_map}
use Rattle.def_paths.specs.Paths.{macro_named, map_of, scope}
use Rattle.def_sources.specs.Sources.{World}
use Rattle.tree_ids.specs.declared.ids.ModItemId.{ModItemId}
use Rattle.def_rules.specs.declared.inner_calls.InnerCall.{InnerCall}
use Rattle.def_rules.specs.Items.{node_at, position_of, top_items, walk}
use Rattle.def_rules.specs.State.{State, Effect, only, followed_by, Site, with_map, world}
use Rattle.def_rules.specs.Waiting.{Expansion, MacroDirective, MacroDirectiveKind, FnLike, WrittenCall}

-- Which macro a call finds at once

-- the last textual macro of a name in a module
abbrev pub textual_macro : World → Name → ModuleId → Option MacroId
textual_macro w name at = option_and_then (λ map. map.facts.textual_macro at name) (map_of w at.map)

-- that of the first of these modules that has one
abbrev pub textual_among : World → Name → List ModuleId → Option MacroId
textual_among w name [] = None
textual_among w name (at ∷ places) = option_or (textual_macro w name at) (textual_among w name places)

-- what a name is called by before imports are resolved: a textual macro of the module, or of the maps around its block, else what the module binds, else a macro that an extern crate brought
abbrev pub early_macro : World → ModuleId → Name → Option MacroId
early_macro w at name =
    option_or (textual_among w name (at ∷ first_of_each_map [] w.map.facts.containing))
    (option_or (macro_named (scope w at name)) (w.map.facts.macro_use name))

-- a macro counts only where it can be called
abbrev pub if_callable : Option MacroDefId → Option MacroDefId
if_callable None = None
if_callable (Some found) = cond (is_fn_like found.kind) (Some found) None

-- the macro that a path names before imports are resolved, which only a plain path of one segment does
abbrev pub early_meaning : World → ModuleId → Meaning
early_meaning w at path = if_callable (option_and_then (macro_def w.session) (option_and_then (early_macro w at) (as_ident path)))

-- How deep expansions lie

-- the greatest depth
abbrev pub deepest : ℕ
deepest = 2 ^ 32 - 1

-- the depth of an expansion at this depth; there is none below the greatest
abbrev pub deeper : ℕ → ℕ
deeper depth = cond (nat_lt depth deepest) (suc depth) deepest

-- whether an expansion of this depth is over a crate's limit, or at the greatest depth
abbrev pub is_too_deep : MapState → ℕ → Bool
is_too_deep m depth = nat_lt (limit_of m.krate) depth || nat_eq depth deepest

-- What an expansion does

-- the tree of a call's expansion
abbrev pub expansion_tree : MacroCallId → TreeId
expansion_tree call = record { file = MacroFile call; block = None }

-- the directory that is stored for a module, else the root's
abbrev pub stored_directory : (ModuleId → Option Directory) → ModuleId → Directory
stored_directory directories at = unwrap_or (directories at) root_directory

-- the directory in which an expansion's modules have their files: of `include!` the root's, of any other call that of its module
abbrev pub expansion_directory : Oracle → (ModuleId → Option Directory) → ModuleId → MacroCallId → Directory
expansion_directory oracle directories at call = cond (oracle.is_include call) root_directory (stored_directory directories at)

-- the expansion of a call that stands here: in its place, one level deeper
abbrev pub expansion_at : Site → MacroCallId → Expansion
expansion_at site call = record { scope = site.scope; container = site.container; depth = deeper site.depth; call = call; replaces = None }

-- where the items of an expansion stand
abbrev pub expansion_site : Oracle → State → Expansion → Site
expansion_site oracle s expansion =
    record {
      scope = expansion.scope;
      container = expansion.container;
      tree = expansion_tree expansion.call;
      depth = expansion.depth;
      directory = expansion_directory oracle s.directories expansion.scope expansion.call;
    }

-- these are read as helpers at a position
abbrev pub with_helpers : MapState → InFile FileAstId → List ShownHelper → MapState
with_helpers m position [] = m
with_helpers m position (helper ∷ helpers) = with_helpers (with_helper m position helper) position helpers

-- so they are at an item of a tree, if it is there
abbrev pub helped : MapState → TreeId → List ShownHelper → Option ItemNode → MapState
helped m tree helpers None = m
helped m tree helpers (Some item) = with_helpers m (record { file = tree.file; value = item.ast_id }) helpers

-- and at each of these items
abbrev pub each_helped : Oracle → MapState → TreeId → List ShownHelper → List ModItemId → MapState
each_helped oracle m tree helpers [] = m
each_helped oracle m tree helpers (id ∷ ids) = each_helped oracle (helped m tree helpers (node_at oracle tree id)) tree helpers ids

-- the map in which the helpers of an item are those of the items that stand in its place
abbrev pub replaced_by : Oracle → MapState → MacroCallId → Option (InFile FileAstId) → MapState
replaced_by oracle m call None = m
replaced_by oracle m call (Some position) = each_helped oracle m (expansion_tree call) (m.helpers position) (top_items oracle (expansion_tree call))

-- so the state of an expansion
abbrev pub with_replaced : Oracle → State → Expansion → State
with_replaced oracle s expansion = with_map s (replaced_by oracle s.map expansion.call expansion.replaces)

-- an expansion is walked, and one that lies too deep is dropped
abbrev pub expansion_effect : Oracle → State → Expansion → Effect
expansion_effect oracle s expansion =
    cond (is_too_deep s.map expansion.depth) (only s)
    (followed_by (with_replaced oracle s expansion) (walk oracle (expansion_site oracle s expansion) (top_items oracle (expansion_tree expansion.call))))

-- What a call does

-- the map in which these calls were made in a module
abbrev pub invoking : ℕ → List (InFile FileAstId × MacroCallId) → MapState → MapState
invoking at [] m = m
invoking at (call ∷ calls) m = invoking at calls (with_module m at (with_invocation call.0 call.1))

-- so the state
abbrev pub with_invocations : State → ModuleId → List (InFile FileAstId × MacroCallId) → State
with_invocations s at calls = with_map s (invoking at.index calls s.map)

-- a call that was made in a module, until it is recorded
abbrev pub inner_call : ModuleId → InFile FileAstId × MacroCallId → InnerCall
inner_call at made = record { module_id = at; position = made.0; call = made.1 }

-- the state in which these calls are to be recorded too
abbrev pub with_inner_calls : State → ModuleId → List (InFile FileAstId × MacroCallId) → State
with_inner_calls s at calls = record s { inner_calls = s.inner_calls ++ map (inner_call at) calls }

-- the map in which these are recorded, in order
abbrev pub recording_inner : List InnerCall → MapState → MapState
recording_inner [] m = m
recording_inner (made ∷ calls) m = recording_inner calls (with_module m made.module_id.index (with_invocation made.position made.call))

-- the state in which all are recorded that were to be
abbrev pub inner_recorded : State → State
inner_recorded s = record s { map = recording_inner s.inner_calls s.map; inner_calls = [] }

-- what a call at a position is asked with, by how deep its expansion would lie
abbrev pub call_query : MapState → InFile FileAstId → ℕ → WrittenCall → PlainCall
call_query m position depth written =
    record {
      position = position;
      path = written.path;
      ctxt = written.ctxt;
      kind = written.expand_to;
      krate = m.id.krate;
      depth = depth;
      recursion_limit = limit_of m.krate;
    }

-- what the oracle answers to a call, by what a resolver finds
abbrev pub answer_by : Oracle → Meaning → PlainCall → Result CallAnswer UnresolvedMacro
answer_by oracle meaning query = oracle.macro_call query (map meaning (oracle.asked_paths query))

-- an item waits for a macro
abbrev pub waiting : Site → ItemNode → MacroDirectiveKind → MacroDirective
waiting site item kind = record { scope = site.scope; container = site.container; position = position_of site item; depth = deeper site.depth; kind = kind }

-- the state in which it does
abbrev pub queued : State → Site → ItemNode → MacroDirectiveKind → State
queued s site item kind = record s { macros = s.macros ++ waiting site item kind ∷ [] }

-- a call was made, and is expanded; where there is none, nothing follows
abbrev pub made_effect : Oracle → State → Site → ItemNode → Option MacroCallId → Effect
made_effect oracle s site item None = only s
made_effect oracle s site item (Some call) = expansion_effect oracle (with_invocations s site.scope ((position_of site item, call) ∷ [])) (expansion_at site call)

-- an answer without an error is final, and a call with one waits
abbrev pub told_effect : Oracle → State → Site → ItemNode → WrittenCall → Option MacroCallId → Option ℕ → Effect
told_effect oracle s site item written value None = made_effect oracle s site item value
told_effect oracle s site item written value (Some error) = only (queued s site item (FnLike written))

-- the calls that were made for the arguments are recorded; a call whose macro is not found waits
abbrev pub answered_effect : Oracle → State → Site → ItemNode → WrittenCall → Result CallAnswer UnresolvedMacro → Effect
answered_effect oracle s site item written (Ok answer) = told_effect oracle (with_invocations s site.scope answer.inner) site item written answer.value answer.err
answered_effect oracle s site item written (Err unresolved) = only (queued s site item (FnLike written))

-- a macro call is tried where it stands
abbrev pub call_effect : Oracle → State → Site → ItemNode → WrittenCall → Effect
call_effect oracle s site item written = answered_effect oracle s site item written (answer_by oracle (early_meaning (world oracle s) site.scope) (call_query s.map (position_of site item) (deeper site.depth) written))
