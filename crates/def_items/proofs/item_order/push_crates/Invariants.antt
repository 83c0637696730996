use Rattle.std.proofs.Common.{◌≡◌, ◌++◌, drop, filter, option_map}
use Rattle.def_rules.specs.Items.{names_crate}
use Rattle.def_items.proofs.item_order.push_crates.Given as goal

-- what is left appends the rest
abbrev pub invariant-crates : goal.invariant-crates
invariant-crates l =
    l.sorted.items ++ filter (names_crate (option_map (λ t. t.now) l.fn.tree)) (drop l.id-index l.list)
    ≡ l.fn.sorted.items ++ filter (names_crate (option_map (λ t. t.now) l.fn.tree)) l.list
