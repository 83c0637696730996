-- The tree of no items.
use Rattle.std.proofs.Common.{[], arith}
use Rattle.item_tree.specs.Trees.{IsSound}
use Rattle.item_tree.proofs.TreesLemmas.{sound_from_below}

-- no fault stands where there are no items
pub sound_empty : IsSound [] []
sound_empty = sound_from_below [] [] (λ fault below. absurd (omega (arith, below))) (λ some. omega (arith, some.2))
