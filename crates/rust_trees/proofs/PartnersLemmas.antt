use Rattle.std.proofs.Common.{◌≡◌, ℕ, ◌<◌, List, [], ◌∷◌, ◌++◌, length, get_or, set, arith}
use Rattle.std.proofs.lemmas.Grind.{common_steps}
use Rattle.rust_trees.specs.Partners.{ArePartners}

-- No places.
pub no_partners : ArePartners []
no_partners k inside = omega arith

-- One more place, which is its own partner.
pub one_more : (xs : List ℕ) (n : ℕ) → n ≡ length xs → ArePartners xs → ArePartners (xs ++ n ∷ [])
one_more xs n last before k inside = grind (arith, common_steps, before k)

-- Two places, each its own partner, become partners of each other.
pub paired : (xs : List ℕ) (a b : ℕ) → a < length xs → b < length xs → get_or xs a 0 ≡ a → get_or xs b 0 ≡ b → ArePartners xs → ArePartners (set (set xs a b) b a)
paired xs a b in_a in_b own_a own_b before k inside = grind (arith, common_steps, before k)
