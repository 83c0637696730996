use Rattle.std.proofs.Common.{rules}
use Rattle.def_sources.proofs.sources.absolute.Goals as goal

pub returns-else-is_2015 : goal.returns-else-is_2015
returns-else-is_2015 g c = search rules
