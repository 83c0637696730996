use Rattle.std.proofs.Common.{ap}
use Rattle.def_interner.specs.Session.{in_module, session_of}
use Rattle.def_modules.specs.Maps.{map_state}
use Rattle.def_parts.specs.Sites.{site_of}
use Rattle.def_collector.specs.Collector.{state_of}
use Rattle.def_rules.specs.Locations.{number_kind}
use Rattle.def_laws.proofs.LocationsLaws.{own_extern_crate}
use Rattle.def_rules.specs.State.{State, with_map}
use Rattle.def_laws.proofs.RecordLaws.{on_ok}
use Rattle.def_items.proofs.ItemsLemmas.{handled_extern_crate}
use Rattle.def_collector.proofs.collector.DefCollector.collect_crate.Goals as goal

pub returns-clause-handled : goal.returns-clause-handled
returns-clause-handled g c = on_ok c.collect_extern_crate.result c.collect_extern_crate.ensures (λ performs kind.
    let oracle = g.D.SourceDatabase.oracle c.args.db.now in
    let before : State = state_of c.args.self.now c.args.session.now in
    let session = c.intern.new.session in
    handled_extern_crate oracle before (state_of c.collect_extern_crate.new.self session) (session_of session) (site_of c.args.site.now) c.args.node.now c.in_ok-id.id.0 c.position.result
    (own_extern_crate (site_of c.args.site.now) c.args.node.now c.args.session.now c.intern.new.session (record { container = c.args.site.now.module_id; position = c.position.result }) (ap number_kind kind)
    (ap (in_module c.args.site.now.module_id) c.position.ensures) c.in_ok-id.ensures.grown c.in_ok-id.ensures.others c.in_ok-id.ensures.adds) c.position.ensures c.args.written.name c.args.written.visibility.now c.args.written.alias
    (with_map (record before { session = session_of session }) (map_state c.define_extern_crate_decl.new.self)) c.crate_name.result c.resolve_visibility-vis.result c.in_ok-brought.brought.items c.named_crate-root.result
    kind c.in_ok-id.ensures.shown (ap (with_map (record before { session = session_of session })) c.in_ok-define_extern_crate_decl.ensures)
    c.crate_name.ensures c.resolve_visibility-vis.ensures c.in_ok-brought.ensures (c.named_crate-root.ensures session)
    (performs oracle session))
