use Rattle.std.proofs.Common.{rules}
use Rattle.def_paths.proofs.answers.resolve.Goals as goal

pub returns : goal.returns
returns g c = search rules
