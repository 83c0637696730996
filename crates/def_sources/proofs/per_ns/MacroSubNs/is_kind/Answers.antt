use Rattle.std.proofs.Common.{rules}
use Rattle.def_sources.proofs.per_ns.MacroSubNs.is_kind.Goals as goal

pub returns-else-is_attribute : goal.returns-else-is_attribute
returns-else-is_attribute c = search rules
