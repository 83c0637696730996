use Rattle.std.proofs.Common.{ap, ◌++◌}
use Rattle.std.specs.List.{flat_map}
use Rattle.def_bindings.specs.ModuleTree.{chain_in}
use Rattle.def_bindings.specs.Visibility.{order_over}
use Rattle.def_rules.specs.Globs.{variant_entries}
use Rattle.def_steps.proofs.GatherLemmas.{gathers_all, gathers_read}
use Rattle.def_steps.proofs.glob_scope.variants_entries.Goals as goal

pub variants-init : goal.variants-init
variants-init c =
    let entries_of = variant_entries (order_over (chain_in c.args.order.now)) c.args.glob in
    ap (λ l. l ++ flat_map entries_of c.args.variants.now) c.new-entries.ensures.items

pub variants-preserved : goal.variants-preserved
variants-preserved c =
    gathers_read (variant_entries (order_over (chain_in c.args.order.now)) c.args.glob) c.args.variants.now c.variants.variant-index _
    c.variants.entries.items c.push_variant.new.entries.items _ c.variants-test.true c.in_ok-push_variant.ensures c.variants.invariant

pub returns : goal.returns
returns c =
    gathers_all (variant_entries (order_over (chain_in c.args.order.now)) c.args.glob) c.args.variants.now c.variants.variant-index c.variants.entries.items _ c.variants-test.false c.variants.invariant
