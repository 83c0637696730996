use Rattle.std.proofs.Common.{rules}
use Rattle.macro_calls.proofs.call_queries.is_too_deep.Goals as goal

pub returns-then-recursion_limit-depth : goal.returns-then-recursion_limit-depth
returns-then-recursion_limit-depth c = search rules
