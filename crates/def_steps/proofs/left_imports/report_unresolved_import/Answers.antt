use Rattle.std.proofs.Common.{rules}
use Rattle.def_steps.proofs.left_imports.report_unresolved_import.Goals as goal

pub returns-clause-map : goal.returns-clause-map
returns-clause-map c = search rules
