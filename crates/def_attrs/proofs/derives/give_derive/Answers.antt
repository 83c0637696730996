use Rattle.std.proofs.Common.{rules}
use Rattle.def_attrs.proofs.derives.give_derive.Goals as goal

pub returns : goal.returns
returns g c = search rules
