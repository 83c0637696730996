use Rattle.std.proofs.Common.{◌≡◌, ◌++◌, drop, filter, not, option_map}
use Rattle.def_rules.specs.Items.{names_crate}
use Rattle.def_items.proofs.item_order.push_others.Given as goal

-- what is left appends the rest
abbrev pub invariant-others : goal.invariant-others
invariant-others l =
    l.sorted.items ++ filter (λ id. not (names_crate (option_map (λ t. t.now) l.fn.tree) id)) (drop l.id-index l.list)
    ≡ l.fn.sorted.items ++ filter (λ id. not (names_crate (option_map (λ t. t.now) l.fn.tree) id)) l.list
