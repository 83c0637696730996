use Rattle.std.proofs.Common.{rules}
use Rattle.item_tree.proofs.tree.ItemTree.new.Goals as goal

pub returns-in-Some-clause-fault : goal.returns-in-Some-clause-fault
returns-in-Some-clause-fault c = search rules
