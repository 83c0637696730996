use Rattle.std.proofs.Common.{rules}
use Rattle.def_bindings.proofs.visibility.is_raised.Goals as goal

pub returns-in-Some : goal.returns-in-Some
returns-in-Some g c = search rules
