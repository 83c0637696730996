use Rattle.std.proofs.Common.{◌≡◌, ◌++◌, drop}
use Rattle.std.specs.List.{flat_map}
use Rattle.def_bindings.specs.ModuleTree.{chain_in}
use Rattle.def_bindings.specs.Visibility.{order_over}
use Rattle.def_rules.specs.Globs.{variant_entries}
use Rattle.def_steps.proofs.glob_scope.variants_entries.Given as goal

-- the entries so far and those to come are those of all variants
abbrev pub invariant-variants : goal.invariant-variants
invariant-variants l =
    let entries_of = variant_entries (order_over (chain_in l.order)) l.glob in
    l.entries.items ++ flat_map entries_of (drop l.variant-index l.variants) ≡ flat_map entries_of l.variants
