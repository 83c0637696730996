use Rattle.std.proofs.Common.{rules}
use Rattle.def_attrs.proofs.attrs.first_unknown.Goals as goal

pub attrs-preserved : goal.attrs-preserved
attrs-preserved g c = search rules
