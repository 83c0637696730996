use Rattle.std.proofs.Common.{rules}
use Rattle.def_items.proofs.lists.Frame.open.Goals as goal

pub returns-clause-left : goal.returns-clause-left
returns-clause-left c = search rules

pub returns-clause-entered : goal.returns-clause-entered
returns-clause-entered c = search rules
