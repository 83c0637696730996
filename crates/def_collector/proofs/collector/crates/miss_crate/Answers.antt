use Rattle.std.proofs.Common.{rules}
use Rattle.def_collector.proofs.collector.crates.miss_crate.Goals as goal

pub returns : goal.returns
returns c = search rules
