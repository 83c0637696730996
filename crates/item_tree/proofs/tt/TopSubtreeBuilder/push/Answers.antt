use Rattle.item_tree.proofs.TokenTreesLemmas.{begun_push}
use Rattle.item_tree.proofs.tt.TopSubtreeBuilder.push.Goals as goal

pub invariant_of-self-2 : goal.invariant_of-self-2
invariant_of-self-2 c = rw c.in_ok-push.ensures.items (begun_push _ _ _ c.self.invariant)
