-- The work of a walk: it falls with each item that is read, though the item's expansion is read next.
use Rattle.std.specs.Prelude.{ℕ, ◌^◌, List, sum_by}
use Rattle.def_assoc.specs.ExpansionTrees.{Node, levels_from}

-- what an item weighs above this many levels: more than 2^64 items one level deeper together
unfoldable pub weight : ℕ → ℕ
weight levels = (2 ^ 65) ^ levels

-- what an item weighs at its depth
abbrev pub node_work : Node → ℕ
node_work node = weight (levels_from node.depth)

-- what items weigh
abbrev pub work : List Node → ℕ
work nodes = sum_by node_work nodes
