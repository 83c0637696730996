use Rattle.std.proofs.Common.{rules}
use Rattle.def_sources.proofs.asked.Asked.is_builtin_first.Goals as goal

pub returns : goal.returns
returns c = search rules
