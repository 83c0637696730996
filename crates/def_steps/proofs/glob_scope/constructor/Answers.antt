use Rattle.std.proofs.Common.{rules}
use Rattle.def_steps.proofs.glob_scope.constructor.Goals as goal

pub returns-else-variant : goal.returns-else-variant
returns-else-variant c = search rules
