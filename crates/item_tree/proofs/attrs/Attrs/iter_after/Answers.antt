use Rattle.std.proofs.lemmas.Grind.{common_steps}
use Rattle.std.proofs.Common.{arith}
use Rattle.item_tree.proofs.attrs.Attrs.iter_after.Goals as goal

pub returns : goal.returns
returns c = grind (arith, common_steps)
