use Rattle.std.proofs.Common.{rules}
use Rattle.def_steps.proofs.directive.is_by_crate.Goals as goal

pub returns-in-Some-ExternCrate : goal.returns-in-Some-ExternCrate
returns-in-Some-ExternCrate c = search rules
