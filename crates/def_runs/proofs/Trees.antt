-- Trees that are written out.
use Rattle.std.proofs.Common.{◌≡◌, ℕ, true, None, List, [], ◌∷◌}
use Rattle.item_tree.specs.declared.attrs.AttrsOrCfg.TheVariants.{Enabled}
use Rattle.tree_ids.specs.declared.ids.HirFileId.TheVariants.{File}
use Rattle.tree_ids.specs.declared.ids.ModItemId.{ModItemId}
use Rattle.tree_ids.specs.declared.ids.TreeId.{TreeId}
use Rattle.item_tree.specs.declared.items.CtorVisibility.TheVariants.{ValueNsCtorWithVis}
use Rattle.item_tree.specs.declared.items.ImportKind.{ImportKind}
use Rattle.item_tree.specs.declared.items.ItemNode.{ItemNode}
use Rattle.item_tree.specs.declared.items.ModContents.TheVariants.{Inline}
use Rattle.item_tree.specs.declared.items.ModItemKind.{ModItemKind}
use Rattle.item_tree.specs.declared.items.ModItemKind.TheVariants.{Mod, Struct, Use}
use Rattle.item_tree.specs.declared.items.RawVisibility.{RawVisibility}
use Rattle.item_tree.specs.declared.items.RawVisibility.TheVariants.{Public, PubSelf}
use Rattle.item_tree.specs.declared.mod_path.ModPath.{ModPath}
use Rattle.tree_ids.specs.declared.name.Name.{Name}
use Rattle.item_tree.specs.declared.tree.ItemTree.{ItemTree}
use Rattle.item_tree.specs.TreesLaws.{is_tree, sound_from_test}

-- the name of this number; the numbers from 32 on are no known names
abbrev pub named : ℕ → Name
named n = record { 0 = n }

-- the items of these numbers
abbrev pub items : List ℕ → List ModItemId
items [] = []
items (n ∷ ns) = record { 0 = n } ∷ items ns

-- an item with this number in its file, and without attributes
abbrev pub node : ℕ → ModItemKind → ItemNode
node n kind = record { ast_id = record { 0 = n }; attrs = None; kind = kind }

-- `mod NAME { .. }`
abbrev pub inline_mod : Name → List ModItemId → ModItemKind
inline_mod name children = Mod name PubSelf (Inline children)

-- `pub struct NAME;`
abbrev pub unit_struct : Name → ModItemKind
unit_struct name = Struct name Public (ValueNsCtorWithVis Public)

-- a `use` of one import, which is number 0 in it
abbrev pub use_one : RawVisibility → ImportKind → ModPath → ModItemKind
use_one vis kind path = Use vis (record { idx = 0; path = path; kind = kind; alias = None } ∷ [])

-- a tree of these items, which passes the test of trees
abbrev pub tree_with : (nodes : List ItemNode) (top : List ModItemId) → is_tree nodes top ≡ true → ItemTree
tree_with nodes top passes = record { items = nodes; top = top; attrs = Enabled (record { list = [] }); sound = sound_from_test nodes top passes }

-- the tree of file 0
abbrev pub root_file : TreeId
root_file = record { file = File (record { 0 = 0 }); block = None }
