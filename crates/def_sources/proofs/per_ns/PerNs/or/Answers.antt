use Rattle.std.proofs.Common.{rules}
use Rattle.def_sources.proofs.per_ns.PerNs.or.Goals as goal

pub returns : goal.returns
returns c = search rules
