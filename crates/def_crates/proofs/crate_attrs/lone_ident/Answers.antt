use Rattle.std.proofs.Common.{rules}
use Rattle.def_crates.proofs.crate_attrs.lone_ident.Goals as goal

pub returns-in-Some-None : goal.returns-in-Some-None
returns-in-Some-None c = search rules
