use Rattle.std.proofs.Common.{subst}
use Rattle.item_tree.specs.Attrs.{attrs_of, has_attr}
use Rattle.item_tree.specs.KnownNames.{macro_export_name}
use Rattle.def_parts.specs.Sites.{site_of}
use Rattle.def_laws.proofs.RecordLaws.{on_ok}
use Rattle.def_laws.specs.Performs.{Performs}
use Rattle.def_rules.specs.Macros.{export_effect, textual_state}
use Rattle.def_rules.specs.State.{State, Effect}
use Rattle.def_macros.specs.Shown.{with_told}
use Rattle.def_macros.proofs.definitions.keep_macro_rules.Goals as goal

pub returns : goal.returns
returns c = on_ok c.define_macro_rules.result c.define_macro_rules.ensures (λ defined oracle s.
    let item = c.args.item in
    let after : State = with_told s c.report_macro.new.diagnostics.items c.define_macro_rules.new.def_map c.define_macro_rules.new.table in
    let effect : State → Effect = λ u. export_effect (textual_state u (site_of item.site.now) item.node.now item.name item.id) (has_attr macro_export_name (attrs_of item.node.now.attrs)) item.name item.id in
    subst (λ u. Performs oracle (effect u).tasks (effect u).state after)
    (c.in_ok-report_macro.ensures (with_told s c.args.diagnostics.now.items c.args.def_map.now c.args.table.now))
    (defined oracle (with_told s c.report_macro.new.diagnostics.items c.args.def_map.now c.args.table.now)))
