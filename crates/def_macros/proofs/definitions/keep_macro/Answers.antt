use Rattle.std.proofs.Common.{subst}
use Rattle.def_parts.specs.Sites.{site_of}
use Rattle.def_laws.proofs.RecordLaws.{on_ok}
use Rattle.def_laws.specs.Performs.{Performs}
use Rattle.def_rules.specs.Macros.{defined_effect}
use Rattle.def_rules.specs.State.{State, Effect}
use Rattle.def_macros.specs.Shown.{with_told}
use Rattle.def_macros.proofs.definitions.keep_macro.Goals as goal

pub returns : goal.returns
returns c = on_ok c.define_macro.result c.define_macro.ensures (λ defined oracle s.
    let item = c.args.item in
    let after : State = with_told s c.report_macro.new.diagnostics.items c.define_macro.new.def_map c.define_macro.new.table in
    let effect : State → Effect = λ u. defined_effect u (site_of item.site.now) item.node.now item.name c.args.vis item.expander item.id in
    subst (λ u. Performs oracle (effect u).tasks (effect u).state after)
    (c.in_ok-report_macro.ensures (with_told s c.args.diagnostics.now.items c.args.def_map.now c.args.table.now))
    (defined oracle (with_told s c.report_macro.new.diagnostics.items c.args.def_map.now c.args.table.now)))
