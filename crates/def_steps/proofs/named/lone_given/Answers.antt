use Rattle.std.proofs.Common.{ap, sym, ◌∙◌}
use Rattle.def_bindings.specs.ModuleTree.{chain_in}
use Rattle.def_bindings.specs.Puts.{lessened}
use Rattle.def_bindings.specs.Visibility.{order_over}
use Rattle.def_map.specs.PathAnswer.{whole}
use Rattle.def_rules.specs.Imports.{kept_item}
use Rattle.def_steps.specs.Shown.{import_of}
use Rattle.def_steps.proofs.NamedLemmas.{types-alone}
use Rattle.def_steps.proofs.named.lone_given.Goals as goal

pub returns-else-not-keeps_ns : goal.returns-else-not-keeps_ns
returns-else-not-keeps_ns c name =
    let answer = whole c.args.answer.now in
    types-alone (order_over (chain_in c.args.order.now)) (import_of c.args.import.now) c.args.vis c.lesser_or_import-vis.result (kept_item answer answer.resolved_def.types) (kept_item answer answer.resolved_def.values) (kept_item answer answer.resolved_def.macros)
    c.in_ok-item-in-Some.item.now name c.in_ok-item-in-Some.ensures (ap (kept_item answer) c.in-None-found_in-2.ensures) (ap (kept_item answer) c.in-None.ensures) (sym c.keeps_ns.ensures ∙ c.if-not-keeps_ns.false)
    (c.lesser_or_import-vis.ensures ∙ ap (λ own. lessened (order_over (chain_in c.args.order.now)) own c.args.vis) c.reexported_vis-own.ensures)
