use Rattle.std.proofs.Common.{rules}
use Rattle.def_steps.proofs.glob_scope.GlobScope.sees.Goals as goal

pub returns-else-self : goal.returns-else-self
returns-else-self c = search rules
