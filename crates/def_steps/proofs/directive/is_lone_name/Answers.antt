use Rattle.std.proofs.Common.{rules}
use Rattle.def_steps.proofs.directive.is_lone_name.Goals as goal

pub returns-then-is_plain_or_self : goal.returns-then-is_plain_or_self
returns-then-is_plain_or_self c = search rules
