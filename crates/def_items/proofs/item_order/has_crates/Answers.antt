use Rattle.std.proofs.Common.{option_map, refl}
use Rattle.def_rules.specs.Items.{names_crate}
use Rattle.def_items.proofs.OrderLemmas.{none-next}
use Rattle.def_items.proofs.item_order.has_crates.Goals as goal

pub items-preserved : goal.items-preserved
items-preserved c =
    none-next (names_crate (option_map (λ t. t.now) c.args.tree)) c.args.list.now _ c.items.id-index _ _ c.names_crate.result
    c.items-test.true refl c.names_crate.ensures c.if-names_crate.false c.items.invariant
