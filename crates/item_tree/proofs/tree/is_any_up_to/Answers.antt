use Rattle.std.proofs.Common.{rules}
use Rattle.item_tree.proofs.tree.is_any_up_to.Goals as goal

pub returns : goal.returns
returns c = search rules
