use Rattle.std.proofs.Common.{◌≡◌, length}
use Rattle.rust_trees.specs.Partners.{ArePartners}
use Rattle.rust_trees.proofs.trees.Trees.new.Given as goal

abbrev pub invariant-loop-at : goal.invariant-loop-at
invariant-loop-at l = record {
  matched : ArePartners l.partners.items;
  as_many : length l.partners.items ≡ l.at;
}
