use Rattle.std.proofs.Common.{◌≡◌, ◌++◌, drop}
use Rattle.std.specs.List.{flat_map}
use Rattle.def_bindings.specs.ModuleTree.{chain_in}
use Rattle.def_bindings.specs.Visibility.{order_over}
use Rattle.def_sources.specs.Tables.{bound_by}
use Rattle.def_rules.specs.Globs.{name_entries}
use Rattle.def_steps.proofs.glob_scope.GlobScope.push_names.Given as goal

-- the entries so far and those to come are those of all names
abbrev pub invariant-names : goal.invariant-names
invariant-names l =
    let content = bound_by l.self.table.now in
    let entries_of = name_entries (order_over (chain_in l.self.order.now)) l.self.glob l.self.own content l.self.source in
    l.entries.items ++ flat_map entries_of (drop l.name-index l.names) ≡ l.initial.entries.items ++ flat_map entries_of l.names
