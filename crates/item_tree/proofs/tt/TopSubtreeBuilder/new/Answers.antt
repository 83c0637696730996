use Rattle.item_tree.proofs.TokenTreesLemmas.{begun_empty}
use Rattle.item_tree.proofs.tt.TopSubtreeBuilder.new.Goals as goal

pub invariant_of-result : goal.invariant_of-result
invariant_of-result c = rw c.new.ensures.items begun_empty
