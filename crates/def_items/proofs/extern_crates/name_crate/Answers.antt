use Rattle.std.proofs.Common.{rules}
use Rattle.def_items.proofs.extern_crates.name_crate.Goals as goal

pub returns : goal.returns
returns c = search rules
