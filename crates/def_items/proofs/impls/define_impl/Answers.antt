use Rattle.std.proofs.Common.{ap}
use Rattle.def_interner.specs.Session.{in_module, session_of}
use Rattle.def_items.specs.Parts.{with_session}
use Rattle.def_parts.specs.Sites.{site_of}
use Rattle.def_rules.specs.Locations.{number_kind}
use Rattle.def_laws.proofs.LocationsLaws.{own_impl}
use Rattle.def_items.proofs.ItemsLemmas.{handled_impl}
use Rattle.def_items.proofs.impls.define_impl.Goals as goal
use Rattle.def_rules.specs.State.{State, with_map}

pub returns-clause-handled : goal.returns-clause-handled
returns-clause-handled c = λ oracle s kind.
    let before : State = with_session s c.args.session.now c.args.def_map.now in
    handled_impl oracle before (with_session s c.intern.new.session c.define_impl.new.self) (session_of c.intern.new.session) (site_of c.args.site.now) c.args.node.now c.in_ok-id.id.0 c.position.result
    (own_impl (site_of c.args.site.now) c.args.node.now c.args.session.now c.intern.new.session (record { container = c.args.site.now.module_id; position = c.position.result }) (ap number_kind kind)
    (ap (in_module c.args.site.now.module_id) c.position.ensures) c.in_ok-id.ensures.grown c.in_ok-id.ensures.others c.in_ok-id.ensures.adds)
    c.position.ensures c.args.is_trait_impl kind c.in_ok-id.ensures.shown
    (ap (with_map (record before { session = session_of c.intern.new.session })) c.in_ok-define_impl.ensures)
