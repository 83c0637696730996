use Rattle.std.proofs.Common.{◌≡◌, sym, ap, ◌∙◌}
use Rattle.def_map.specs.Paths.{for_import, resolve}
use Rattle.def_rules.specs.Imports.{answer_now}
use Rattle.def_steps.specs.Shown.{import_of}
use Rattle.def_steps.specs.declared.directive.ImportDirective.{ImportDirective}
use Rattle.def_collector.specs.Collector.{state_of}
use Rattle.def_collector.proofs.TriesLemmas.{same_import}
use Rattle.def_collector.proofs.imports.try_whole.Goals as goal

pub record_ready-requires-clause-answer : goal.record_ready-requires-clause-answer
record_ready-requires-clause-answer g c = λ d here.
    let directive = c.in-Some.directive.now in
    let same : directive ≡ d = same_import _ directive d (sym c.in-Some.ensures) here in
    c.resolve_import-answer.ensures
    ∙ ap (λ w. resolve w for_import directive.import.module_id directive.import.written.now.path) c.world.ensures
    ∙ ap (λ (x : ImportDirective). answer_now (g.D.SourceDatabase.oracle c.args.db.now) (state_of c.args.collector.now c.args.session.now) (import_of x.import)) same
