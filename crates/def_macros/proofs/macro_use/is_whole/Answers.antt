use Rattle.std.proofs.Common.{rules}
use Rattle.def_macros.proofs.macro_use.is_whole.Goals as goal

pub returns-then-has_key : goal.returns-then-has_key
returns-then-has_key c = search rules
