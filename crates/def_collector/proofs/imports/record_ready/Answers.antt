use Rattle.std.proofs.Common.{Some, ap, refl, sym, ◌∙◌}
use Rattle.def_map.specs.PathAnswer.{whole}
use Rattle.def_collector.specs.declared.collector.DefCollector.{DefCollector}
use Rattle.def_collector.proofs.TriesLemmas.{kept-list, kept-some, moved, turns_kept, unready_here}
use Rattle.def_steps.specs.Shown.{import_of, kept_with, ns_set}
use Rattle.def_rules.specs.Recording.{kept_list}
use Rattle.def_collector.proofs.imports.record_ready.Goals as goal

pub returns-then-not-is_ready-clause-unready : goal.returns-then-not-is_ready-clause-unready
returns-then-not-is_ready-clause-unready g c = λ _.
    let directive = c.in-Some.directive.now in
    let here = sym c.in-Some.ensures in
    unready_here (g.D.SourceDatabase.oracle c.args.db.now) c.args.session.now c.args.collector.now c.args.at directive (whole c.args.answer.now) c.is_ready.result
    here (c.requires.answer directive here) c.is_ready.ensures c.if-not-is_ready.true

pub retire-requires : goal.retire-requires
retire-requires g c = kept-some (ns_set c.in-Some.directive.now.recorded) (whole c.args.answer.now) c.kept_after-kept.result (sym c.is_ready.ensures ∙ c.if-not-is_ready.false) c.kept_after-kept.ensures

pub returns-clause-moved : goal.returns-clause-moved
returns-clause-moved g c = λ _.
    let directive = c.in-Some.directive.now in
    let import = directive.import in
    let here = sym c.in-Some.ensures in
    let kept : DefCollector = record c.args.collector.now { imports = c.retire.new.self } in
    moved (g.D.SourceDatabase.oracle c.args.db.now) c.args.session.now c.args.collector.now c.record_resolved_import.new.collector kept directive (whole c.args.answer.now) c.is_ready.result (kept_with import c.kept_after-kept.result)
    c.requires.bare (c.requires.answer directive here) c.is_ready.ensures c.if-not-is_ready.false (kept-list import c.kept_after-kept.result ∙ ap (kept_list (import_of import)) c.kept_after-kept.ensures) refl
    (c.in_ok-retire.ensures.retired directive here)
    c.in_ok-record_resolved_import.ensures.performs
    (turns_kept c.args.session.now kept c.record_resolved_import.new.collector c.record_resolved_import.ensures.frame)

pub returns-then-not-is_ready-clause-same : goal.returns-then-not-is_ready-clause-same
returns-then-not-is_ready-clause-same g c = λ _. refl
