use Rattle.std.proofs.Common.{rules}
use Rattle.def_crates.proofs.crate_attrs.set_limit.Goals as goal

pub returns-in-Some : goal.returns-in-Some
returns-in-Some c = search rules
