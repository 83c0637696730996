use Rattle.std.proofs.Common.{rules}
use Rattle.def_calls.proofs.directives.leave.Goals as goal

pub returns : goal.returns
returns c = search rules
