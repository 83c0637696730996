use Rattle.std.proofs.Common.{rules}
use Rattle.def_crates.proofs.missing_crates.may_name_crate.Goals as goal

pub returns-in_default : goal.returns-in_default
returns-in_default c = search rules
