use Rattle.std.proofs.Common.{arith}
use Rattle.def_modules.specs.Maps.{map_state}
use Rattle.def_crates.specs.Missing.{missing_in}
use Rattle.def_steps.proofs.LeftLemmas.{left_more, left_none, left_whole}
use Rattle.def_steps.proofs.left_imports.report_left_imports.Goals as goal

pub left-init : goal.left-init
left-init c = left_none (missing_in c.args.missing.now) (map_state c.args.def_map.now) c.args.imports.now.items c.args.diagnostics.now.items

pub left-preserved : goal.left-preserved
left-preserved c =
    left_more (missing_in c.args.missing.now) (map_state c.args.def_map.now) c.args.imports.now.items c.args.diagnostics.now.items
    (map_state c.left.def_map) (map_state c.report_left_import.new.def_map) c.left.imports.items c.report_left_import.new.imports.items
    c.left.diagnostics.items c.report_left_import.new.diagnostics.items c.args.directives.now c.entry-item.result c.left.entry-index
    c.left.invariant c.left-test.true c.entry-item.is c.in_ok-report_left_import.ensures.map c.in_ok-report_left_import.ensures.imports c.in_ok-report_left_import.ensures.diagnostics

pub returns-clause-map : goal.returns-clause-map
returns-clause-map c =
    let left = left_whole (missing_in c.args.missing.now) (map_state c.args.def_map.now) c.args.imports.now.items c.args.diagnostics.now.items (map_state c.left.def_map) c.left.imports.items c.left.diagnostics.items
    c.args.directives.now c.left.entry-index c.left.invariant (omega (arith, c.left-test.false)) in
    left.marks

pub returns-clause-imports : goal.returns-clause-imports
returns-clause-imports c =
    let left = left_whole (missing_in c.args.missing.now) (map_state c.args.def_map.now) c.args.imports.now.items c.args.diagnostics.now.items (map_state c.left.def_map) c.left.imports.items c.left.diagnostics.items
    c.args.directives.now c.left.entry-index c.left.invariant (omega (arith, c.left-test.false)) in
    left.lefts

pub returns-clause-diagnostics : goal.returns-clause-diagnostics
returns-clause-diagnostics c =
    let left = left_whole (missing_in c.args.missing.now) (map_state c.args.def_map.now) c.args.imports.now.items c.args.diagnostics.now.items (map_state c.left.def_map) c.left.imports.items c.left.diagnostics.items
    c.args.directives.now c.left.entry-index c.left.invariant (omega (arith, c.left-test.false)) in
    left.reports
