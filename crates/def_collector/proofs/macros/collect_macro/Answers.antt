use Rattle.std.proofs.Common.{refl}
use Rattle.def_interner.specs.Session.{session_of}
use Rattle.def_parts.specs.Sites.{site_of}
use Rattle.def_collector.specs.Collector.{state_of}
use Rattle.def_laws.proofs.RecordLaws.{on_ok}
use Rattle.def_rules.specs.Macros.{unimplemented_reported}
use Rattle.def_rules.specs.State.{State}
use Rattle.def_macros.proofs.MacrosLemmas.{handled_item}
use Rattle.def_collector.proofs.macros.collect_macro.Goals as goal

pub returns-clause-handled : goal.returns-clause-handled
returns-clause-handled g c = on_ok c.keep_macro.result c.keep_macro.ensures (λ defined kind.
    let oracle = g.D.SourceDatabase.oracle c.args.db.now in
    let before : State = state_of c.args.collector.now c.args.session.now in
    let kept : State = record before { session = session_of c.number_macro.new.session } in
    let item = c.in_ok-item.item in
    let told : State = unimplemented_reported kept (site_of item.site.now) item.node.now item.expander in
    handled_item oracle before _ told (session_of c.number_macro.new.session) (site_of c.args.site.now) c.args.node.now c.args.written.name item
    (c.in_ok-item.ensures.own c.args.written.visibility.now kind) refl c.args.written.visibility.now c.resolve_visibility-vis.result kind c.resolve_visibility-vis.ensures c.in_ok-item.ensures.item
    (defined oracle kept))
