use Rattle.std.proofs.Common.{◌∙◌, ap, subst, sym}
use Rattle.item_tree.specs.declared.items.ModContents.{ModContents}
use Rattle.item_tree.specs.declared.items.ModContents.TheVariants.{Inline}
use Rattle.def_parts.specs.Sites.{site_of}
use Rattle.def_collector.specs.Walk.{inner_of, with_reports}
use Rattle.def_laws.proofs.ResultLaws.{if_ok}
use Rattle.def_laws.specs.Performs.{IsDone}
use Rattle.def_rules.specs.Modules.{module_item}
use Rattle.def_rules.specs.State.{State}
use Rattle.def_collector.proofs.modules.collect_module.Goals as goal

pub returns-in-Inline-clause-done : goal.returns-in-Inline-clause-done
returns-in-Inline-clause-done g c =
    let oracle = g.D.SourceDatabase.oracle c.args.db.now in
    let item = c.args.item in
    if_ok c.collect_inline_module.result c.collect_inline_module.ensures.done (λ opened done s named.
    let before : State = with_reports s c.args.def_map.now c.args.table.now c.args.diagnostics.now in
    subst (λ (contents : ModContents). IsDone oracle (module_item oracle before (site_of item.site.now) item.node.now item.name item.vis contents)
    (with_reports s c.collect_inline_module.new.def_map c.collect_inline_module.new.table c.args.diagnostics.now) (inner_of oracle opened))
    (ap (λ children. Inline children) c.as_slice.ensures ∙ sym c.in-Inline.is) (done before named))
