use Rattle.std.proofs.Common.{rules}
use Rattle.def_bindings.proofs.visibility.lesser_or_import.Goals as goal

pub returns : goal.returns
returns g c = search rules
