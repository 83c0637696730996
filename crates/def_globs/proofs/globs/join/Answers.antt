use Rattle.std.proofs.Common.{rules}
use Rattle.def_globs.proofs.globs.join.Goals as goal

pub returns-after-is_raised : goal.returns-after-is_raised
returns-after-is_raised g c = search rules
