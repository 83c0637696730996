use Rattle.std.proofs.Common.{◌≡◌, None, Some, ap, false, refl, subst, sym, ◌∙◌}
use Rattle.def_imports.specs.Glances.{Shows}
use Rattle.def_imports.proofs.GlanceLemmas.{given-alone}
use Rattle.def_map.specs.Answers.{reached}
use Rattle.def_map.specs.Paths.{for_import, resolve}
use Rattle.def_map.specs.Asking.{world_lent}
use Rattle.def_rules.specs.Imports.{answer_now}
use Rattle.def_sources.specs.Tables.{bound_by, found_by}
use Rattle.def_steps.specs.Shown.{import_of, ns_set}
use Rattle.def_steps.specs.declared.directive.ImportDirective.{ImportDirective}
use Rattle.def_collector.specs.Collector.{state_of}
use Rattle.def_collector.proofs.TriesLemmas.{same_import, unready_here}
use Rattle.def_collector.proofs.imports.try_import.Goals as goal

pub returns-in-Unready-clause-unready : goal.returns-in-Unready-clause-unready
returns-in-Unready-clause-unready g c = λ _.
    let directive = c.in-Some.directive.now in
    let import = directive.import in
    let w = world_lent g.D.SourceDatabase.oracle bound_by c.world.result in
    unready_here (g.D.SourceDatabase.oracle c.args.db.now) c.args.session.now c.args.collector.now c.args.at directive
    (resolve w for_import import.module_id import.written.now.path) false
    (sym c.in-Some.ensures)
    (ap (λ w. resolve w for_import import.module_id import.written.now.path) c.world.ensures)
    (sym (subst (Shows (ns_set directive.recorded) (resolve w for_import import.module_id import.written.now.path)) c.in-Unready.is c.glance_at.ensures))
    refl

pub record_ready-requires-clause-answer : goal.record_ready-requires-clause-answer
record_ready-requires-clause-answer g c = λ d here.
    let directive = c.in-Some.directive.now in
    let import = directive.import in
    let w = world_lent g.D.SourceDatabase.oracle bound_by c.world.result in
    let shows = subst (Shows (ns_set directive.recorded) (resolve w for_import import.module_id import.written.now.path)) c.in-Lone.is c.glance_at.ensures in
    let same : directive ≡ d = same_import _ directive d (sym c.in-Some.ensures) here in
    let found = found_by c.in-Lone.found in
    ap (λ f. reached f None false) (sym (given-alone found c.in-Lone.ns c.in-Some-binding.item shows.1 c.in-Some-binding.ensures))
    ∙ sym shows.0
    ∙ ap (λ w. resolve w for_import import.module_id import.written.now.path) c.world.ensures
    ∙ ap (λ (x : ImportDirective). answer_now (g.D.SourceDatabase.oracle c.args.db.now) (state_of c.args.collector.now c.args.session.now) (import_of x.import)) same
