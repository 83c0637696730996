-- Trees that are numbered in the order of the text.
use Rattle.std.specs.Prelude.{◌≡◌, ℕ, ◌+◌, ◌<◌, ◌≤◌, Some, List, [], ◌∷◌, length, slice_get}
use Rattle.tree_ids.specs.declared.ids.ModItemId.{ModItemId}
use Rattle.item_tree.specs.declared.items.ItemNode.{ItemNode}
use Rattle.item_tree.specs.Trees.{children_at}

-- the numbers in the list rise from `low` on, and stay below `bound`
abbrev pub IsRising : ℕ → ℕ → List ModItemId → Type 0
IsRising bound low [] = Unit {0}
IsRising bound low (c ∷ cs) = (low ≤ c.0) × (c.0 < bound) × IsRising bound (c.0 + 1) cs

-- the children of each item rise, behind the item
abbrev pub AreRising : List ItemNode → Type 0
AreRising items = (i : ℕ) → IsRising (length items) (i + 1) (children_at items i)

-- the items from `low` on that come before `high` have no child at `bound` or behind it
abbrev pub IsWithin : List ItemNode → ℕ → ℕ → ℕ → Type 0
IsWithin items low high bound = (i k : ℕ) (c : ModItemId) → low ≤ i → i < high → slice_get (children_at items i) k ≡ Some c → c.0 < bound

-- the items from `low` on that come before a number in the list have their children before it too
abbrev pub IsCut : List ItemNode → ℕ → List ModItemId → Type 0
IsCut items low list = (k : ℕ) (c : ModItemId) → slice_get list k ≡ Some c → IsWithin items low c.0 c.0

-- the children of each item from `low` on cut the items behind it
abbrev pub AreCut : List ItemNode → ℕ → Type 0
AreCut items low = (i : ℕ) → low ≤ i → IsCut items (i + 1) (children_at items i)

-- a parent comes before its children, siblings rise, and each subtree ends before the next sibling; likewise the top list
pub record IsInTextOrder (items : List ItemNode) (top : List ModItemId) : Type 0 where
  pub rising : AreRising items
  pub top_rising : IsRising (length items) 0 top
  pub cut : AreCut items 0
  pub top_cut : IsCut items 0 top
