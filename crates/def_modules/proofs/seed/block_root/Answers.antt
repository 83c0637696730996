use Rattle.std.proofs.Common.{rules}
use Rattle.def_modules.proofs.seed.block_root.Goals as goal

pub returns : goal.returns
returns c = (search rules, c.in_ok-modules.ensures)
