use Rattle.std.proofs.Common.{option_map, refl}
use Rattle.def_rules.specs.Items.{names_crate}
use Rattle.def_items.proofs.OrderLemmas.{passes_next}
use Rattle.def_items.proofs.item_order.push_crates.Goals as goal

pub crates-preserved : goal.crates-preserved
crates-preserved c =
    passes_next (names_crate (option_map (λ t. t.now) c.args.tree)) c.args.list.now _ c.crates.sorted.items c.push_if.new.sorted.items c.crates.id-index _ _ c.names_crate.result
    c.crates-test.true refl c.names_crate.ensures c.crates.invariant c.in_ok-push_if.ensures
