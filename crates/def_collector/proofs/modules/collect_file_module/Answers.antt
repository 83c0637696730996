use Rattle.std.proofs.Common.{◌||◌, ap, ◌∙◌}
use Rattle.item_tree.specs.Attrs as attrs
use Rattle.def_parts.specs.Sites.{site_of}
use Rattle.def_collector.specs.Walk.{found_in, with_reports}
use Rattle.def_items.specs.Lists.{behind}
use Rattle.def_rules.specs.Modules.{bring_if, file_tree, is_macro_use}
use Rattle.def_rules.specs.State.{State}
use Rattle.def_laws.proofs.ModulesLaws.{file_disabled, file_opened}
use Rattle.def_laws.proofs.StartLaws.{attrs_of, cfg_of, tops_of}
use Rattle.def_collector.proofs.modules.collect_file_module.Goals as goal

pub returns-in-Some-clause-done : goal.returns-in-Some-clause-done
returns-in-Some-clause-done g c = λ s.
    let oracle = g.D.SourceDatabase.oracle c.args.db.now in
    let before : State = with_reports s c.args.def_map.now c.args.table.now c.args.diagnostics.now in
    let item = c.args.found.item in
    let found = found_in c.args.found in
    file_disabled oracle before (record before { diagnostics = c.report.new.diagnostics.items }) (site_of item.site.now) item.node.now item.name item.vis
    found c.in-Some.cfg (c.in-Some.ensures ∙ cfg_of oracle (file_tree found) c.item_tree-tree.result c.item_tree-tree.ensures) (ap (λ d. record before { diagnostics = d }) c.in_ok-report.ensures)

pub returns-clause-done : goal.returns-clause-done
returns-clause-done g c = λ s.
    let oracle = g.D.SourceDatabase.oracle c.args.db.now in
    let before : State = with_reports s c.args.def_map.now c.args.table.now c.args.diagnostics.now in
    let item = c.args.found.item in
    let found = found_in c.args.found in
    file_opened oracle before (with_reports s c.push_module.new.def_map c.push_module.new.table c.args.diagnostics.now) (site_of item.site.now) item.node.now item.name item.vis
    found c.in_ok-child.child c.top_items-items.result.now (behind c.in_ok-child.child c.into_if.result)
    (c.in_default.ensures ∙ cfg_of oracle (file_tree found) c.item_tree-tree.result c.item_tree-tree.ensures) (c.in_ok-child.ensures.child before)
    (c.top_items-items.ensures ∙ tops_of oracle (file_tree found) c.item_tree-tree.result c.item_tree-tree.ensures)
    (c.into_if.ensures c.in_ok-child.child
    ∙ ap (λ b. bring_if b c.in_ok-child.child (site_of item.site.now).scope)
    (c.hands_on-handed_on.ensures ∙ ap (λ l. is_macro_use (attrs.attrs_of item.node.now.attrs) || is_macro_use l) (attrs_of oracle (file_tree found) c.item_tree-tree.result c.item_tree-tree.ensures)))
    (c.in_ok-child.ensures.added before)
