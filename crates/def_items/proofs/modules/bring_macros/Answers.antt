use Rattle.std.proofs.Common.{rules}
use Rattle.def_items.proofs.modules.bring_macros.Goals as goal

pub returns-in-Some : goal.returns-in-Some
returns-in-Some c = search rules
