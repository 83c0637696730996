-- What a tree holds that room is made for.
use Rattle.std.specs.Prelude.{ℕ, ◌+◌, List, [], ◌∷◌, length}
use Rattle.item_tree.specs.declared.items.ItemNode.{ItemNode}
use Rattle.item_tree.specs.declared.items.ModItemKind.{ModItemKind}
use Rattle.item_tree.specs.declared.items.ModItemKind.TheVariants.{Use}
use Rattle.item_tree.specs.declared.items.UseImport.{UseImport}

-- the imports of an item
abbrev pub imports_of : ModItemKind → List UseImport
imports_of (Use visibility imports) = imports
imports_of kind = []

-- how many imports items have
abbrev pub imports_written : List ItemNode → ℕ
imports_written [] = 0
imports_written (node ∷ nodes) = length (imports_of node.kind) + imports_written nodes
