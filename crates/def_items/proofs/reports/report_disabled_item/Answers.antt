use Rattle.std.proofs.Common.{rules}
use Rattle.def_items.proofs.reports.report_disabled_item.Goals as goal

pub returns-clause-cfg : goal.returns-clause-cfg
returns-clause-cfg c = search rules

pub returns-clause-same : goal.returns-clause-same
returns-clause-same c = search rules
