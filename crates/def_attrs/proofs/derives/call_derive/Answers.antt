use Rattle.std.proofs.Common.{rules}
use Rattle.def_attrs.proofs.derives.call_derive.Goals as goal

pub returns : goal.returns
returns g c = search rules
