use Rattle.std.proofs.Common.{rules}
use Rattle.def_macros.proofs.expanders.builtin_macro.Goals as goal

pub returns-in-Some-Right : goal.returns-in-Some-Right
returns-in-Some-Right g c = search rules
