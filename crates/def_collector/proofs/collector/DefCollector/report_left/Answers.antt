use Rattle.std.proofs.Common.{◌++◌, ap, map, ◌∙◌}
use Rattle.std.specs.List.{flat_map}
use Rattle.def_crates.specs.Missing.{missing_in}
use Rattle.def_modules.specs.Maps.{map_state}
use Rattle.def_rules.specs.Report.{import_report, left_import}
use Rattle.def_steps.specs.ImportLists.{marked_each, unresolved_in}
use Rattle.def_collector.proofs.collector.DefCollector.report_left.Goals as goal

pub returns-clause-map : goal.returns-clause-map
returns-clause-map c = c.in_ok-report_left_imports.ensures.map ∙ ap (λ es. marked_each (unresolved_in es) (map_state c.args.self.now.def_map)) c.entries.ensures

pub returns-clause-imports : goal.returns-clause-imports
returns-clause-imports c =
    c.in_ok-report_left_imports.ensures.imports
    ∙ ap (λ xs. xs ++ map left_import (unresolved_in c.entries.result.now)) c.new-imports.ensures.items
    ∙ ap (λ es. map left_import (unresolved_in es)) c.entries.ensures

pub returns-clause-diagnostics : goal.returns-clause-diagnostics
returns-clause-diagnostics c =
    c.in_ok-report_left_imports.ensures.diagnostics
    ∙ ap (λ es. c.args.self.now.diagnostics.items ++ flat_map (import_report (missing_in c.args.self.now.missing_crates)) (unresolved_in es)) c.entries.ensures
