use Rattle.std.proofs.Common.{rules}
use Rattle.def_steps.proofs.directive.is_ready.Goals as goal

pub returns-else-is_foreign : goal.returns-else-is_foreign
returns-else-is_foreign c = search rules
