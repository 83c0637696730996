use Rattle.std.proofs.Common.{rules}
use Rattle.def_modules.proofs.block.BlockData.within.Goals as goal

pub returns : goal.returns
returns c = search rules
