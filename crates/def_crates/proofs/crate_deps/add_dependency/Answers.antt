use Rattle.std.proofs.Common.{rules}
use Rattle.def_crates.proofs.crate_deps.add_dependency.Goals as goal

pub returns-then-not-is_named : goal.returns-then-not-is_named
returns-then-not-is_named c = search rules
