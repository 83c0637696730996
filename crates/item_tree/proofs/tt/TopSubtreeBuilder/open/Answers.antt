use Rattle.std.proofs.Common.{arith}
use Rattle.item_tree.proofs.TokenTreesLemmas.{begun_open}
use Rattle.item_tree.proofs.tt.TopSubtreeBuilder.open.Goals as goal

pub invariant_of-self-2 : goal.invariant_of-self-2
invariant_of-self-2 c =
    rw c.in_ok-push.ensures.items (begun_open _ _ _ c.self.invariant (omega (arith, c.len-self-inside.ensures, c.in_ok-push.ensures.len)))
