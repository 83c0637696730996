use Rattle.std.proofs.Common.{rules}
use Rattle.def_attrs.proofs.attrs.awaited_attr.Goals as goal

pub returns : goal.returns
returns g c = search rules
