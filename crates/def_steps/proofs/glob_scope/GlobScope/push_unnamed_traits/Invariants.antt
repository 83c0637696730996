use Rattle.std.proofs.Common.{◌≡◌, ◌++◌, ◌-◌, drop, length}
use Rattle.std.specs.List.{flat_map}
use Rattle.def_bindings.specs.ModuleTree.{chain_in}
use Rattle.def_bindings.specs.Visibility.{order_over}
use Rattle.def_sources.specs.Tables.{bound_by}
use Rattle.def_rules.specs.Globs.{unnamed_entry}
use Rattle.def_steps.proofs.glob_scope.GlobScope.push_unnamed_traits.Given as goal

-- the entries so far and those to come are those of all unnamed traits
abbrev pub invariant-unnamed : goal.invariant-unnamed
invariant-unnamed l =
    let content = bound_by l.self.table.now in
    let entries_of = unnamed_entry (order_over (chain_in l.self.order.now)) l.self.glob l.self.own in
    l.entries.items ++ flat_map entries_of (drop l.index (content.unnamed l.self.source)) ≡ l.initial.entries.items ++ flat_map entries_of (content.unnamed l.self.source)

abbrev pub decreases-unnamed : goal.decreases-unnamed
decreases-unnamed l = length ((bound_by l.self.table.now).unnamed l.self.source) - l.index
