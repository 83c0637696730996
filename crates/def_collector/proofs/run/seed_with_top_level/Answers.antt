use Rattle.std.proofs.Common.{[], ap, append-nil, subst, ◌∙◌}
use Rattle.def_collector.specs.Collector.{state_of}
use Rattle.def_rules.specs.State.{State}
use Rattle.def_laws.specs.Runs.{Leads}
use Rattle.def_laws.proofs.RecordLaws.{on_ok}
use Rattle.def_laws.proofs.StartLaws.{attrs_of, cfg_of, starts_disabled, starts_walked, tops_of}
use Rattle.def_collector.proofs.CollectLemmas.{led_from}
use Rattle.def_collector.proofs.run.seed_with_top_level.Goals as goal

pub returns-in-Some-clause-run : goal.returns-in-Some-clause-run
returns-in-Some-clause-run g c =
    let oracle = g.D.SourceDatabase.oracle c.args.db.now in
    let first = c.first_tree-tree_id.result in
    let tree = c.item_tree-tree.result in
    let seeded : State = state_of c.seed.new.collector c.args.session.now in
    on_ok c.report_disabled.result c.report_disabled.ensures (λ last.
    starts_disabled oracle (state_of c.args.collector.now c.args.session.now) seeded c.args.tree_id first c.top_attrs.result.now c.disabled_by-disabled.result
    c.first_tree-tree_id.ensures c.in_ok-seed.ensures (c.top_attrs.ensures ∙ attrs_of oracle first tree c.item_tree-tree.ensures) (c.disabled_by-disabled.ensures ∙ cfg_of oracle first tree c.item_tree-tree.ensures)
    (record seeded { diagnostics = c.report_disabled.new.diagnostics.items }) c.in-Some.cfg c.in-Some.is (ap (λ d. record seeded { diagnostics = d }) last))

pub returns-clause-run : goal.returns-clause-run
returns-clause-run g c =
    let oracle = g.D.SourceDatabase.oracle c.args.db.now in
    let first = c.first_tree-tree_id.result in
    let tree = c.item_tree-tree.result in
    on_ok c.walk.result c.walk.ensures.run (λ run.
    starts_walked oracle (state_of c.args.collector.now c.args.session.now) (state_of c.seed.new.collector c.args.session.now) c.args.tree_id first c.top_attrs.result.now c.disabled_by-disabled.result
    c.first_tree-tree_id.ensures c.in_ok-seed.ensures (c.top_attrs.ensures ∙ attrs_of oracle first tree c.item_tree-tree.ensures) (c.disabled_by-disabled.ensures ∙ cfg_of oracle first tree c.item_tree-tree.ensures)
    (state_of c.walk.new.collector c.walk.new.session) c.first_depth.result c.root.result c.top_items.result.now c.in_default.is c.first_depth.ensures c.root.ensures (c.top_items.ensures ∙ tops_of oracle first tree c.item_tree-tree.ensures)
    (led_from c.seed.new.collector c.args.session.now c.make_room_for_items.new.session c.make_room_for_items.ensures
    (subst (λ tasks. Leads oracle tasks (state_of c.seed.new.collector c.make_room_for_items.new.session) [] (state_of c.walk.new.collector c.walk.new.session)) (append-nil _) run)))
