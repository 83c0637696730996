use Rattle.std.proofs.Common.{rules}
use Rattle.def_steps.proofs.directive.kept_after.Goals as goal

pub returns-else-is_full : goal.returns-else-is_full
returns-else-is_full c = search rules
