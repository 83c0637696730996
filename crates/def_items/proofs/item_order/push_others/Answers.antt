use Rattle.std.proofs.Common.{option_map, not, ap, refl}
use Rattle.def_rules.specs.Items.{names_crate}
use Rattle.def_items.proofs.OrderLemmas.{passes_next}
use Rattle.def_items.proofs.item_order.push_others.Goals as goal

pub others-preserved : goal.others-preserved
others-preserved c =
    passes_next (λ id. not (names_crate (option_map (λ t. t.now) c.args.tree) id)) c.args.list.now _ c.others.sorted.items c.push_if.new.sorted.items c.others.id-index _ _ (not c.names_crate.result)
    c.others-test.true refl (ap not c.names_crate.ensures) c.others.invariant c.in_ok-push_if.ensures
