use Rattle.std.proofs.Common.{rules}
use Rattle.def_items.proofs.lists.disabled_by.Goals as goal

pub returns-in-Some : goal.returns-in-Some
returns-in-Some c = search rules
