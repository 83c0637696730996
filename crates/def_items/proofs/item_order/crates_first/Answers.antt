use Rattle.std.proofs.Common.{option_map, rules, sym, ◌∙◌}
use Rattle.def_rules.specs.Items.{names_crate}
use Rattle.def_items.proofs.OrderLemmas.{none-first}
use Rattle.def_items.proofs.item_order.crates_first.Goals as goal

pub returns-then-not-has_crates : goal.returns-then-not-has_crates
returns-then-not-has_crates c = sym (none-first (names_crate (option_map (λ t. t.now) c.args.tree)) c.args.list.now (sym c.has_crates.ensures ∙ c.if-not-has_crates.true))

pub returns : goal.returns
returns c = search rules
