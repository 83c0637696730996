use Rattle.std.proofs.Common.{rules}
use Rattle.def_sources.proofs.sources.builtin_type.Goals as goal

pub returns-in-Some : goal.returns-in-Some
returns-in-Some g c = search rules
