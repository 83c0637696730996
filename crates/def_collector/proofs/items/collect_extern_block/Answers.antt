use Rattle.std.proofs.Common.{ap}
use Rattle.def_interner.specs.Session.{in_module, session_of}
use Rattle.def_parts.specs.Sites.{site_of}
use Rattle.def_items.specs.Parts.{with_session}
use Rattle.def_rules.specs.Locations.{number_kind}
use Rattle.def_laws.proofs.LocationsLaws.{own_extern_block}
use Rattle.def_rules.specs.State.{State, with_map}
use Rattle.def_items.proofs.ItemsLemmas.{handled_extern_block}
use Rattle.def_collector.proofs.items.collect_extern_block.Goals as goal

pub returns-clause-handled : goal.returns-clause-handled
returns-clause-handled g c = λ s kind.
    let before : State = with_session s c.args.session.now c.args.def_map.now in
    handled_extern_block (g.D.SourceDatabase.oracle c.args.db.now) before _ (session_of c.intern.new.session) (site_of c.args.site.now) c.args.node.now c.in_ok-id.id.0 c.position.result
    (own_extern_block (site_of c.args.site.now) c.args.node.now c.args.session.now c.intern.new.session (record { container = c.args.site.now.module_id; position = c.position.result }) (ap number_kind kind)
    (ap (in_module c.args.site.now.module_id) c.position.ensures) c.in_ok-id.ensures.grown c.in_ok-id.ensures.others c.in_ok-id.ensures.adds) c.position.ensures _ c.as_slice.result.now c.in_ok-clone.field-0
    kind c.as_slice.ensures c.in_ok-clone.ensures c.in_ok-id.ensures.shown
    (ap (with_map (record before { session = session_of c.intern.new.session })) c.in_ok-define_extern_block.ensures)
