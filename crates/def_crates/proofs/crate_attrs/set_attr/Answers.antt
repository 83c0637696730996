use Rattle.std.proofs.Common.{rules}
use Rattle.def_crates.proofs.crate_attrs.set_attr.Goals as goal

pub returns-then-has_key-3 : goal.returns-then-has_key-3
returns-then-has_key-3 c = search rules
