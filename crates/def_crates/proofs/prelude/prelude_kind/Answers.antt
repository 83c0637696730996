use Rattle.std.proofs.Common.{rules}
use Rattle.def_crates.proofs.prelude.prelude_kind.Goals as goal

pub returns-in-Edition2015 : goal.returns-in-Edition2015
returns-in-Edition2015 c = search rules
