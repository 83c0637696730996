use Rattle.std.proofs.Common.{refl}
use Rattle.def_modules.proofs.block.BlockData.new.Goals as goal

pub returns-in-Ok : goal.returns-in-Ok
returns-in-Ok c =
    let tree = rw c.in-Some.is at c.in_ok-new.ensures in
    λ edition. rw (c.in-Ok.ensures edition, tree.2, c.from_vec.ensures) refl
