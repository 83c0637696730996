use Rattle.std.proofs.Common.{Some}
use Rattle.tree_ids.specs.declared.ids.InFile.{InFile}
use Rattle.tree_ids.specs.declared.ids.ModItemId.{ModItemId}
use Rattle.def_modules.proofs.CrateLemmas.{rekeyed}
use Rattle.def_attrs.specs.ItemAttrs.{item_eq}
use Rattle.def_attrs.proofs.AttrsLemmas.{derived_item_eq, items_same}
use Rattle.def_attrs.proofs.item_attrs.ItemAttrs.pass_over.Goals as goal

pub returns-clause-skipped : goal.returns-clause-skipped
returns-clause-skipped c =
    let key : InFile ModItemId = record { file = c.args.file; value = c.args.item } in
    let e = rekeyed derived_item_eq item_eq items_same c.args.self.now.skipped c.insert.new.self key (Some c.args.id) c.in_ok-insert.ensures.updates.0 in
    λ i f item. e i (record { file = f; value = item })
