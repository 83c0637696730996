use Rattle.std.proofs.Common.{[], ap, refl, sym, ◌∙◌}
use Rattle.def_interner.specs.Session.{session_of}
use Rattle.def_parts.specs.Sites.{site_of}
use Rattle.def_collector.specs.Collector.{state_of}
use Rattle.def_rules.specs.Locations.{number_kind}
use Rattle.def_rules.specs.State.{State}
use Rattle.def_laws.proofs.RecordLaws.{on_ok}
use Rattle.def_macros.proofs.ProcMacrosLemmas.{exports_nothing, handled_function, handled_grown}
use Rattle.def_collector.proofs.collector.DefCollector.collect_function.Goals as goal

pub collect_exporting-requires-clause-root : goal.collect_exporting-requires-clause-root
collect_exporting-requires-clause-root g c = sym (c.exports_macros.ensures (state_of c.args.self.now c.number_function.new.session)) ∙ c.if-exports_macros.true

pub returns-then-exports_macros-clause-handled : goal.returns-then-exports_macros-clause-handled
returns-then-exports_macros-clause-handled g c = on_ok c.collect_exporting.result c.collect_exporting.ensures.handled (λ handled kind.
    handled_grown (g.D.SourceDatabase.oracle c.args.db.now) (state_of c.args.self.now c.args.session.now) _ (session_of c.number_function.new.session) (site_of c.args.site.now) c.args.node.now []
    (c.in_ok-id.ensures.own (ap number_kind kind)) (handled kind))

pub returns-clause-handled : goal.returns-clause-handled
returns-clause-handled g c = on_ok c.declare.result c.declare.ensures (λ declared kind.
    let before : State = state_of c.args.self.now c.args.session.now in
    let session = session_of c.number_function.new.session in
    let site = site_of c.args.site.now in
    let kept : State = record before { session = session } in
    handled_function (g.D.SourceDatabase.oracle c.args.db.now) before _ session site c.args.node.now c.args.written.name c.args.written.visibility.now c.in_ok-id.id _ kind (c.in_ok-id.ensures.own (ap number_kind kind)) c.in_ok-id.ensures.numbered refl
    (exports_nothing kept site c.args.node.now c.args.written.name (sym (c.exports_macros.ensures kept) ∙ c.if-exports_macros.false)) declared)
