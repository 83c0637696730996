use Rattle.std.proofs.Common.{ap, ◌∙◌}
use Rattle.def_interner.specs.Session.{in_module, session_of}
use Rattle.def_parts.specs.Sites.{site_of}
use Rattle.def_collector.specs.Collector.{state_of}
use Rattle.def_rules.specs.Locations.{number_kind}
use Rattle.def_laws.proofs.LocationsLaws.{own_struct}
use Rattle.def_rules.specs.State.{State}
use Rattle.def_laws.proofs.RecordLaws.{on_ok}
use Rattle.def_items.proofs.ItemsLemmas.{handled_struct}
use Rattle.def_collector.specs.Constructors.{ctor_vis_in}
use Rattle.def_collector.proofs.VisibilityLemmas.{ctor_vis_same}
use Rattle.def_collector.proofs.collector.DefCollector.collect_struct.Goals as goal

pub returns-clause-handled : goal.returns-clause-handled
returns-clause-handled g c = on_ok c.define_struct.result c.define_struct.ensures (λ performs kind.
    let oracle = g.D.SourceDatabase.oracle c.args.db.now in
    let before : State = state_of c.args.self.now c.args.session.now in
    handled_struct oracle before _ (session_of c.intern.new.session) (site_of c.args.site.now) c.args.node.now _ _ _ c.in_ok-id.id.0 c.position.result c.resolve_visibility.result c.constructor_visibility-ctor_vis.result
    kind (own_struct (site_of c.args.site.now) c.args.node.now c.args.session.now c.intern.new.session (record { container = c.args.site.now.module_id; position = c.position.result }) (ap number_kind kind)
    (ap (in_module c.args.site.now.module_id) c.position.ensures) c.in_ok-id.ensures.grown c.in_ok-id.ensures.others c.in_ok-id.ensures.adds) c.position.ensures c.in_ok-id.ensures.shown c.resolve_visibility.ensures (c.constructor_visibility-ctor_vis.ensures ∙ ap (λ w. ctor_vis_in w c.args.site.now.module_id c.args.written.ctor.now) c.world.ensures
    ∙ ctor_vis_same oracle (state_of c.args.self.now c.intern.new.session) c.args.site.now.module_id c.args.written.ctor.now)
    (performs oracle (state_of c.args.self.now c.intern.new.session)))
