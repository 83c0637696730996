use Rattle.std.proofs.Common.{rules}
use Rattle.def_macros.proofs.expanders.builtin_name.Goals as goal

pub returns-in-Some : goal.returns-in-Some
returns-in-Some c = search rules
