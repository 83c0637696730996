use Rattle.std.proofs.Common.{rules}
use Rattle.macro_calls.proofs.early_resolver.EarlyResolverMacroResolver.resolve.Goals as goal

pub returns-in_err-found : goal.returns-in_err-found
returns-in_err-found g c = search rules

pub returns-then-is_fn_like : goal.returns-then-is_fn_like
returns-then-is_fn_like g c = search rules

pub returns-else-is_fn_like : goal.returns-else-is_fn_like
returns-else-is_fn_like g c = search rules
