use Rattle.std.proofs.Common.{ap, refl, sym, ◌∙◌}
use Rattle.def_map.specs.PathAnswer.{whole}
use Rattle.def_steps.specs.Shown.{import_of}
use Rattle.def_collector.specs.Collector.{state_of}
use Rattle.def_rules.specs.Imports.{bound_name, named_entries}
use Rattle.def_rules.specs.State.{Import, State, order}
use Rattle.def_laws.proofs.GlobsLaws.{recorded_glob, recorded_named, recorded_prelude}
use Rattle.def_laws.proofs.RecordLaws.{on_ok}
use Rattle.def_laws.proofs.StepsLaws.{performs_listed}
use Rattle.def_collector.proofs.imports.record_resolved_import.Goals as goal

pub returns-in-Plain-clause-performs :
    goal.returns-in-Plain-clause-performs
returns-in-Plain-clause-performs g c =
    let oracle = g.D.SourceDatabase.oracle c.args.db.now in
    let s : State = state_of c.args.collector.now c.args.session.now in
    let t : State = state_of (record c.args.collector.now { table = c.record_named.new.table }) c.args.session.now in
    let p : Import = import_of c.args.import.now in
    on_ok c.record_named.result c.record_named.ensures (λ updated.
    recorded_named oracle s t p (whole c.args.answer.now) c.in-Plain.is
    (performs_listed p.scope _ _ s t (ap (λ vis. named_entries (order s) p vis (whole c.args.answer.now) (bound_name p.written)) c.resolve_visibility-vis.ensures) (updated s)))

pub returns-in-Some-clause-performs : goal.returns-in-Some-clause-performs
returns-in-Some-clause-performs g c =
    recorded_prelude (g.D.SourceDatabase.oracle c.args.db.now) (state_of c.args.collector.now c.args.session.now) _ (import_of c.args.import.now) (whole c.args.answer.now)
    c.in-Some.source c.in-Glob.is (sym c.new_prelude.ensures ∙ c.in-Some.is) refl

pub returns-in-None-clause-performs : goal.returns-in-None-clause-performs
returns-in-None-clause-performs g c =
    let oracle = g.D.SourceDatabase.oracle c.args.db.now in
    let s : State = state_of c.args.collector.now c.args.session.now in
    let t : State = state_of c.record_glob.new.collector c.args.session.now in
    on_ok c.record_glob.result c.record_glob.ensures.performs (λ performs.
    recorded_glob oracle s t (import_of c.args.import.now) (whole c.args.answer.now) c.in-Glob.is (sym c.new_prelude.ensures ∙ c.in-None.is) performs)
