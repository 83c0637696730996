-- What waits for macros, and expansions that are to be walked.
use Rattle.std.specs.Prelude.{ℕ, List, Option}
use Rattle.item_tree.specs.declared.attrs.Attr as attrs
use Rattle.tree_ids.specs.declared.ids.AttrId.{AttrId}
use Rattle.tree_ids.specs.declared.ids.FileAstId.{FileAstId}
use Rattle.tree_ids.specs.declared.ids.InFile.{InFile}
use Rattle.tree_ids.specs.declared.ids.MacroCallId.{MacroCallId}
use Rattle.tree_ids.specs.declared.ids.ModItemId.{ModItemId}
use Rattle.tree_ids.specs.declared.ids.TreeId.{TreeId}
use Rattle.tree_ids.specs.declared.ids.SyntaxContext.{SyntaxContext}
use Rattle.item_tree.specs.declared.items.ExpandTo.{ExpandTo}
use Rattle.item_tree.specs.declared.mod_path.ModPath.{ModPath}
use Rattle.def_ids.specs.declared.ids.ItemContainerId.{ItemContainerId}
use Rattle.def_ids.specs.declared.ids.ModuleId.{ModuleId}
use Rattle.def_rules.specs.declared.deferred.DeferredDerive.{DeferredDerive}

-- a macro call as it is written
pub record WrittenCall : Type 0 where
  pub path : ModPath
  -- what its expansion is read as
  pub expand_to : ExpandTo
  pub ctxt : SyntaxContext

-- an attribute as it is written, and the item that has it
pub record WrittenAttr : Type 0 where
  pub tree : TreeId
  pub item : ModItemId
  -- its number among the item's attributes
  pub id : AttrId
  pub attr : attrs.Attr

-- a path of a derive attribute's list as it is written
pub record WrittenDerive : Type 0 where
  -- the attribute's number among those of its item
  pub id : AttrId
  -- the path's place in the list
  pub pos : ℕ
  pub path : ModPath
  pub ctxt : SyntaxContext
  -- the attribute's call
  pub call : MacroCallId

-- what waits for a macro
pub data MacroDirectiveKind : Type 0 where
  -- a call
  FnLike : WrittenCall → MacroDirectiveKind
  -- an item, for the macro of one of its attributes
  Attr : WrittenAttr → MacroDirectiveKind
  -- a derive
  Derive : WrittenDerive → MacroDirectiveKind

-- what waits for a macro, and where the items of its expansion are to stand
pub record MacroDirective : Type 0 where
  pub scope : ModuleId
  pub container : ItemContainerId
  pub position : InFile FileAstId
  -- how deep in expansions its own lies
  pub depth : ℕ
  pub kind : MacroDirectiveKind

-- an expansion that is to be walked: its call, and where its items are to stand
pub record Expansion : Type 0 where
  pub scope : ModuleId
  pub container : ItemContainerId
  -- how deep in expansions they lie
  pub depth : ℕ
  pub call : MacroCallId
  -- the item in whose place they stand, where an attribute was called
  pub replaces : Option (InFile FileAstId)

-- derives that are deferred, in order, by the positions of their items
abbrev pub Deferrals : Type 0
Deferrals = List (InFile FileAstId × List DeferredDerive)
