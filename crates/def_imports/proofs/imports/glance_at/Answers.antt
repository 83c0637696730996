use Rattle.std.proofs.Common.{None, ap, false, sym, ◌∙◌}
use Rattle.def_map.specs.Answers.{reached}
use Rattle.def_map.specs.Asking.{world_lent}
use Rattle.def_map.specs.Paths.{resolve}
use Rattle.def_map.specs.PerNs.{per_namespace}
use Rattle.def_sources.specs.Tables.{bound_by, found_by}
use Rattle.def_rules.specs.Imports.{is_ready}
use Rattle.def_steps.specs.Shown.{ns_set}
use Rattle.def_imports.proofs.GlanceLemmas.{known-unready, nothing-unready}
use Rattle.def_imports.proofs.imports.glance_at.Goals as goal

pub returns-in_default-found : goal.returns-in_default-found
returns-in_default-found g c =
    let recorded = ns_set c.args.directive.now.recorded in
    let import = c.args.directive.now.import in
    let w = world_lent g.D.SourceDatabase.oracle bound_by c.args.world.now in
    ap (λ asked. is_ready recorded (resolve w asked import.module_id import.written.now.path)) (sym c.for_import-asked.ensures)
    ∙ ap (is_ready recorded) c.in-Some.ensures
    ∙ nothing-unready recorded _ c.in_default-found.ensures

pub returns-then-not-is_extended_by : goal.returns-then-not-is_extended_by
returns-then-not-is_extended_by g c =
    let recorded = ns_set c.args.directive.now.recorded in
    let import = c.args.directive.now.import in
    let w = world_lent g.D.SourceDatabase.oracle bound_by c.args.world.now in
    ap (λ asked. is_ready recorded (resolve w asked import.module_id import.written.now.path)) (sym c.for_import-asked.ensures)
    ∙ ap (is_ready recorded) c.in-Some.ensures
    ∙ known-unready recorded (found_by c.in-Some-found.found) _ (ns_set c.found-given.result) c.is_extended_by.result c.in-Some-found.ensures c.found-given.ensures c.is_extended_by.ensures c.if-not-is_extended_by.true

pub returns-in-Some-lone_ns : goal.returns-in-Some-lone_ns
returns-in-Some-lone_ns g c =
    let import = c.args.directive.now.import in
    let w = world_lent g.D.SourceDatabase.oracle bound_by c.args.world.now in (
      ap (λ asked. resolve w asked import.module_id import.written.now.path) (sym c.for_import-asked.ensures)
          ∙ c.in-Some.ensures
          ∙ ap (λ found. reached (per_namespace found) None false) (sym c.in-Some-found.ensures),
      c.in-Some-lone_ns.ensures,
    )
