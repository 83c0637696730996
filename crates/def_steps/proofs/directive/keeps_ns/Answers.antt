use Rattle.std.proofs.Common.{rules}
use Rattle.def_steps.proofs.directive.keeps_ns.Goals as goal

pub returns-in-Values : goal.returns-in-Values
returns-in-Values c = search rules
