use Rattle.std.proofs.Common.{rules}
use Rattle.def_steps.proofs.directive.plain_name.Goals as goal

pub returns-in-Some-Alias : goal.returns-in-Some-Alias
returns-in-Some-Alias c = search rules
