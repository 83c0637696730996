-- What a reader of token trees gives, as contracts see it.
use Rattle.item_tree.specs.declared.tt.TtElement.{TtElement as Read}
use Rattle.item_tree.specs.declared.tt.TtElement.TheVariants.{Leaf, Subtree}
use Rattle.item_tree.specs.TokenTrees.{TtElement, token, group}

-- the element that is lent
abbrev pub seen : Read → TtElement
seen (Leaf l) = token l.now
seen (Subtree trees) = group trees
