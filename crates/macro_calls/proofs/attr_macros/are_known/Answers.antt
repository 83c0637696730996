use Rattle.std.proofs.Common.{rules}
use Rattle.macro_calls.proofs.attr_macros.are_known.Goals as goal

pub returns-in-len1-up : goal.returns-in-len1-up
returns-in-len1-up g c = search rules
