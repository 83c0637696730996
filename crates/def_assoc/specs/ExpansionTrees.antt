-- The associated items of a trait or an impl and those of the expansions among them, as trees.
use Rattle.std.specs.Prelude.{ℕ, zero, suc, ◌-◌, ◌^◌, Bool, true, false, cond, List, [], ◌∷◌, ◌++◌, map, Option, None, Some, Result, Ok, Err}
use Rattle.std.specs.List.{flat_map}
use Rattle.tree_ids.specs.declared.ids.AttrId.{AttrId}
use Rattle.tree_ids.specs.declared.ids.CfgExpr.{CfgExpr}
use Rattle.tree_ids.specs.declared.ids.FileAstId.{FileAstId}
use Rattle.tree_ids.specs.declared.ids.HirFileId.{HirFileId}
use Rattle.tree_ids.specs.declared.ids.HirFileId.TheVariants as file_of
use Rattle.tree_ids.specs.declared.ids.InFile.{InFile}
use Rattle.tree_ids.specs.declared.ids.MacroCallId.{MacroCallId}
use Rattle.tree_ids.specs.declared.ids.SyntaxContext.{SyntaxContext}
use Rattle.tree_ids.specs.declared.name.Name.{Name}
use Rattle.item_tree.specs.declared.attrs.Attr.{Attr}
use Rattle.item_tree.specs.declared.items.ExpandTo.TheVariants.{Items}
use Rattle.item_tree.specs.declared.mod_path.ModPath.{ModPath}
use Rattle.item_tree.specs.Attrs.{attrs_of, disabled_by, numbered_at}
use Rattle.def_ids.specs.declared.ids.ModuleId.{ModuleId}
use Rattle.def_interner.specs.declared.macro_def.MacroDefKind.{MacroDefKind}
use Rattle.def_interner.specs.declared.macro_def.MacroDefKind.TheVariants.{ProcMacro}
use Rattle.def_modules.specs.MapState.{MapState}
use Rattle.def_oracle.specs.declared.source_database.AssocItem.{AssocItem}
use Rattle.def_oracle.specs.declared.source_database.AssocItemKind.{AssocItemKind}
use Rattle.def_oracle.specs.declared.source_database.AssocItemKind.TheVariants as kind
use Rattle.def_oracle.specs.declared.source_database.AssocItemsOwner.{AssocItemsOwner}
use Rattle.def_oracle.specs.declared.source_database.AssocItemsOwner.TheVariants as owner
use Rattle.def_oracle.specs.declared.source_database.AssocList.{AssocList}
use Rattle.def_oracle.specs.declared.source_database.CallAnswer.{CallAnswer}
use Rattle.def_oracle.specs.declared.source_database.UnresolvedMacro.{UnresolvedMacro}
use Rattle.def_oracle.specs.Oracle.{Oracle}
use Rattle.def_paths.specs.Paths.{resolver}
use Rattle.def_sources.specs.Sources.{World}
use Rattle.def_sources.specs.declared.asked.BuiltinShadowMode.TheVariants as shadow
use Rattle.def_sources.specs.declared.per_ns.MacroSubNs.TheVariants as sub
use Rattle.def_rules.specs.declared.diagnostics.DefDiagnostic.{DefDiagnostic}
use Rattle.def_rules.specs.declared.diagnostics.DefDiagnosticKind.{DefDiagnosticKind}
use Rattle.def_rules.specs.declared.diagnostics.DefDiagnosticKind.TheVariants.{MacroError, UnconfiguredCode, UnresolvedMacroCall}
use Rattle.def_rules.specs.declared.diagnostics.ExpandErrorKind.{ExpandErrorKind}
use Rattle.def_rules.specs.declared.outcome.LeftMacroKind.TheVariants as called
use Rattle.def_rules.specs.Attributes.{expand_error}
use Rattle.def_rules.specs.Calls.{answer_by, call_query, deeper, is_too_deep}
use Rattle.macro_calls.specs.declared.attr_resolution.AttrMeaning.{AttrMeaning}
use Rattle.macro_calls.specs.declared.attr_resolution.AttrMeaning.TheVariants.{Other, Unresolved, Macro}
use Rattle.macro_calls.specs.AttrResolution.{attr_meaning}
use Rattle.def_assoc.specs.declared.numbered.NamedItem.{NamedItem}
use Rattle.def_assoc.specs.declared.numbered.NamedKind.{NamedKind}
use Rattle.def_assoc.specs.declared.numbered.NamedKind.TheVariants as named

-- what associated items are read against: a world, what its map shows beside, and the module that the trait or impl stands in
pub record Reading : Type 0 where
  pub world : World
  pub map : MapState
  pub scope : ModuleId

-- an associated item in a file, at a depth of expansion
pub record Node : Type 0 where
  pub file : HirFileId
  pub depth : ℕ
  pub item : AssocItem

-- where it stands
abbrev pub position_of : Node → InFile FileAstId
position_of node = record { file = node.file; value = node.item.ast_id }

-- these items of a file, at a depth
abbrev pub nodes_in : HirFileId → ℕ → List AssocItem → List Node
nodes_in file depth items = map (λ item. record { file = file; depth = depth; item = item }) items

-- what is reported of an item of a module
abbrev pub diagnostic : ModuleId → InFile FileAstId → DefDiagnosticKind → DefDiagnostic
diagnostic scope position kind = record { «module» = scope; ast_id = position; kind = kind }

-- so it is of an item that is read
abbrev pub reported_of : Reading → Node → DefDiagnosticKind → DefDiagnostic
reported_of r node kind = diagnostic r.scope (position_of node) kind

-- The attributes of an item

-- what was read of attributes: what is reported of them, and the call of the one whose macro takes the item's place
pub record AttrsRead : Type 0 where
  pub diagnostics : List DefDiagnostic
  pub call : Option MacroCallId

-- nothing
abbrev pub no_attrs_read : AttrsRead
no_attrs_read = record { diagnostics = []; call = None }

-- why a macro that an attribute names expands to nothing, if it does: only a procedural one can
abbrev pub no_expander : MacroDefKind → Option ExpandErrorKind
no_expander (ProcMacro expander called) = expand_error expander
no_expander _ = None

-- an attribute's macro takes the item's place, or it is reported why it cannot
abbrev pub macro_read : Reading → Node → Attr → MacroCallId → Option ExpandErrorKind → AttrsRead
macro_read r node attr call None = record { diagnostics = []; call = Some call }
macro_read r node attr call (Some err) = record { diagnostics = reported_of r node (MacroError attr.path err) ∷ []; call = None }

-- what is read of an attribute, by what it is
abbrev pub meaning_read : Reading → Node → AttrId → Attr → AttrMeaning → AttrsRead
meaning_read r node id attr Other = no_attrs_read
meaning_read r node id attr Unresolved = record { diagnostics = reported_of r node (UnresolvedMacroCall (called.Attr id) attr.path) ∷ []; call = None }
meaning_read r node id attr (Macro found call) = macro_read r node attr call (no_expander found.kind)

-- what is read of one attribute
abbrev pub attr_read : Reading → Node → AttrId × Attr → AttrsRead
attr_read r node attr = meaning_read r node attr.0 attr.1 (attr_meaning r.world r.map.krate.tools r.scope (position_of node) attr.0 attr.1 (deeper node.depth))

-- what is read behind some diagnostics
abbrev pub behind : List DefDiagnostic → AttrsRead → AttrsRead
behind diagnostics later = record { diagnostics = diagnostics ++ later.diagnostics; call = later.call }

-- an attribute whose macro takes the item's place is the last that is read
abbrev pub read_on : List DefDiagnostic → Option MacroCallId → AttrsRead → AttrsRead
read_on diagnostics (Some call) later = record { diagnostics = diagnostics; call = Some call }
read_on diagnostics None later = behind diagnostics later

-- what is read of these attributes, in order
abbrev pub attrs_read : Reading → Node → List (AttrId × Attr) → AttrsRead
attrs_read r node [] = no_attrs_read
attrs_read r node (attr ∷ attrs) = read_on (attr_read r node attr).diagnostics (attr_read r node attr).call (attrs_read r node attrs)

-- What an item gives

-- what is found at an item: the item itself, where it has a name, the calls that were made, what is reported, and the call whose expansion stands below it
pub record Gives : Type 0 where
  pub named : List NamedItem
  pub calls : List (InFile FileAstId × MacroCallId)
  pub diagnostics : List DefDiagnostic
  pub expands : Option MacroCallId

-- nothing
abbrev pub nothing : Gives
nothing = record { named = []; calls = []; diagnostics = []; expands = None }

-- an item by its name, if it has one
abbrev pub named_item : Node → NamedKind → Option Name → List NamedItem
named_item node kind None = []
named_item node kind (Some name) = record { name = name; kind = kind; position = position_of node } ∷ []

-- so it is all that is found
abbrev pub names : Node → NamedKind → Option Name → Gives
names node kind name = record { named = named_item node kind name; calls = []; diagnostics = []; expands = None }

-- the call at a position, if there is one
abbrev pub call_at : InFile FileAstId → Option MacroCallId → List (InFile FileAstId × MacroCallId)
call_at position None = []
call_at position (Some call) = (position, call) ∷ []

-- a call that was answered: those that were made for its arguments come before it, and its error is not read
abbrev pub answered : Reading → Node → ModPath → Result CallAnswer UnresolvedMacro → Gives
answered r node path (Ok answer) = record { named = []; calls = answer.inner ++ call_at (position_of node) answer.value; diagnostics = []; expands = answer.value }
answered r node path (Err unresolved) = record nothing { diagnostics = reported_of r node (UnresolvedMacroCall called.Fn path) ∷ [] }

-- what the oracle answers to a call among associated items
abbrev pub call_answer : Reading → Node → ModPath → SyntaxContext → Result CallAnswer UnresolvedMacro
call_answer r node path ctxt =
    answer_by r.world.oracle (resolver r.world shadow.Other sub.Bang r.scope)
    (call_query r.map (position_of node) (deeper node.depth) (record { path = path; expand_to = Items; ctxt = ctxt }))

-- what an item gives by its kind: one without a name gives nothing, and so does a call without a path
abbrev pub kind_gives : Reading → Node → AssocItemKind → Gives
kind_gives r node (kind.Fn name) = names node named.Function name
kind_gives r node (kind.TypeAlias name) = names node named.TypeAlias name
kind_gives r node (kind.Const name) = names node named.Const name
kind_gives r node (kind.MacroCall None ctxt) = nothing
kind_gives r node (kind.MacroCall (Some path) ctxt) = answered r node path (call_answer r node path ctxt)
kind_gives r node kind.Other = nothing

-- what it gives behind its attributes: an attribute's macro takes its place
abbrev pub gives_behind : Reading → Node → List DefDiagnostic → Option MacroCallId → Gives
gives_behind r node diagnostics (Some call) = record { named = []; calls = (position_of node, call) ∷ []; diagnostics = diagnostics; expands = Some call }
gives_behind r node diagnostics None = let own = kind_gives r node node.item.kind in record own { diagnostics = diagnostics ++ own.diagnostics }

-- what an item that is compiled gives
abbrev pub compiled_gives : Reading → Node → AttrsRead → Gives
compiled_gives r node read = gives_behind r node read.diagnostics read.call

-- what an item gives, by the condition that disables it: of one that is not compiled that is reported, and nothing else
abbrev pub gives_if : Reading → Node → Option CfgExpr → Gives
gives_if r node (Some cfg) = record nothing { diagnostics = reported_of r node (UnconfiguredCode cfg) ∷ [] }
gives_if r node None = compiled_gives r node (attrs_read r node (numbered_at 0 (attrs_of node.item.attrs)))

-- whether an item is of a kind that no associated item is of
abbrev pub is_other : AssocItemKind → Bool
is_other kind.Other = true
is_other _ = false

-- what an item gives: one of such a kind nothing, whatever its attributes are
abbrev pub gives : Reading → Node → Gives
gives r node = cond (is_other node.item.kind) nothing (gives_if r node (disabled_by node.item.attrs))

-- The tree

-- whether an owner is a trait that is an alias of others
abbrev pub is_alias : AssocItemsOwner → AssocList → Bool
is_alias (owner.Trait id) list = list.is_alias
is_alias _ list = false

-- the items of an owner: an alias of traits has none
abbrev pub items_in : AssocItemsOwner → Option AssocList → List AssocItem
items_in owner None = []
items_in owner (Some list) = cond (is_alias owner list) [] list.items

-- those that the oracle has
abbrev pub items_of : Oracle → AssocItemsOwner → List AssocItem
items_of oracle owner = items_in owner (oracle.assoc_items owner)

-- the items of the expansion of a call, one level deeper than the item of the call; there are none where that lies too deep
abbrev pub expansion_of : Oracle → MapState → ℕ → Option MacroCallId → List Node
expansion_of oracle map depth None = []
expansion_of oracle map depth (Some call) =
    cond (is_too_deep map depth) [] (nodes_in (file_of.Macro call) (deeper depth) (items_of oracle (owner.Expansion call)))

-- the items below an item: those of the expansion of its call
abbrev pub children : Reading → Node → List Node
children r node = expansion_of r.world.oracle r.map node.depth (gives r node).expands

-- an item and all below it, each before those below it, for this many levels
unfoldable pub subtree : Reading → ℕ → Node → List Node
subtree r zero node = []
subtree r (suc levels) node = node ∷ flat_map (subtree r levels) (children r node)

-- how many levels of items there are from a depth on: none lies deeper than the greatest depth
abbrev pub levels_from : ℕ → ℕ
levels_from depth = 2 ^ 32 - depth

-- an item and all below it
abbrev pub whole_subtree : Reading → Node → List Node
whole_subtree r node = subtree r (levels_from node.depth) node

-- items and all below them, each before those below it
abbrev pub tree : Reading → List Node → List Node
tree r nodes = flat_map (whole_subtree r) nodes

-- What is collected

-- what is collected: what is named, the calls, and what is reported, each in order
pub record Lists : Type 0 where
  pub named : List NamedItem
  pub calls : List (InFile FileAstId × MacroCallId)
  pub diagnostics : List DefDiagnostic

-- nothing
abbrev pub no_lists : Lists
no_lists = record { named = []; calls = []; diagnostics = [] }

-- what items give, in order
abbrev pub lists_of : Reading → List Node → Lists
lists_of r nodes = record {
  named = flat_map (λ (node : Node). (gives r node).named) nodes;
  calls = flat_map (λ (node : Node). (gives r node).calls) nodes;
  diagnostics = flat_map (λ (node : Node). (gives r node).diagnostics) nodes;
}

-- lists one after the other
abbrev pub joined : Lists → Lists → Lists
joined first second = record {
  named = first.named ++ second.named;
  calls = first.calls ++ second.calls;
  diagnostics = first.diagnostics ++ second.diagnostics;
}

-- what one item gives, as lists
abbrev pub lists_in : Gives → Lists
lists_in given = record { named = given.named; calls = given.calls; diagnostics = given.diagnostics }
