use Rattle.std.proofs.Common.{rules}
use Rattle.def_steps.proofs.left_imports.push_diagnostic.Goals as goal

pub returns-then-excuses : goal.returns-then-excuses
returns-then-excuses c = search rules

pub returns : goal.returns
returns c = search rules
