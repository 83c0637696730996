use Rattle.std.proofs.Common.{rules}
use Rattle.def_crates.proofs.crate_deps.is_left_out.Goals as goal

pub returns-else-krate : goal.returns-else-krate
returns-else-krate c = search rules
