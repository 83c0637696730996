use Rattle.std.proofs.Common.{◌≡◌, drop, option_map}
use Rattle.std.specs.List.{list_any}
use Rattle.def_rules.specs.Items.{names_crate}
use Rattle.def_items.proofs.item_order.has_crates.Given as goal

-- none of those that were passed is an extern crate
abbrev pub invariant-items : goal.invariant-items
invariant-items l = list_any (names_crate (option_map (λ t. t.now) l.tree)) (drop l.id-index l.list) ≡ list_any (names_crate (option_map (λ t. t.now) l.tree)) l.list
