use Rattle.std.proofs.Common.{[], ◌∷◌, ap, subst, ◌∙◌}
use Rattle.def_laws.proofs.RecordLaws.{on_ok}
use Rattle.def_laws.specs.Performs.{Updated}
use Rattle.def_rules.specs.ExternCrates.{crate_entry}
use Rattle.def_rules.specs.State.{State}
use Rattle.def_items.specs.Parts.{with_local}
use Rattle.def_modules.specs.Locals.{local_view}
use Rattle.def_rules.specs.Items as items
use Rattle.def_rules.specs.Macros.{taking_macros}
use Rattle.def_collector.specs.Collector.{with_names}
use Rattle.def_collector.proofs.collector.crates.put_crate.Goals as goal

pub returns : goal.returns
returns c = on_ok c.put.result c.put.ensures (λ updated s.
    let item = c.args.item in
    let before : State = with_names s c.args.local.now c.args.def_map.now c.args.table.now in
    let named : State = with_local before (local_view c.name_crate.new.local) in
    let after : State = with_names s c.name_crate.new.local c.take_at_root.new.def_map c.put.new.table in
    subst (λ u. Updated item.site.now.module_id (crate_entry item.id item.name c.args.root item.vis ∷ []) u after)
    (c.in_ok-take_at_root.ensures named
    ∙ ap (λ b. taking_macros b c.args.brought.now named) c.is_crate_root.ensures
    ∙ ap (taking_macros (items.is_crate_root item.site.now.module_id) c.args.brought.now) (c.in_ok-name_crate.ensures before))
    (updated named))
