use Rattle.std.proofs.Common.{ap, refl, ◌∙◌, ◌++◌}
use Rattle.std.specs.List.{flat_map}
use Rattle.def_bindings.specs.ModuleTree.{chain_in}
use Rattle.def_bindings.specs.Visibility.{order_over}
use Rattle.def_sources.specs.Tables.{bound_by}
use Rattle.def_rules.specs.Globs.{name_entries}
use Rattle.def_steps.proofs.GatherLemmas.{gathers_all, gathers_read}
use Rattle.def_steps.proofs.glob_scope.GlobScope.push_names.Goals as goal

pub names-init : goal.names-init
names-init c = refl

pub names-preserved : goal.names-preserved
names-preserved c =
    let self = c.args.self.now in
    gathers_read (name_entries (order_over (chain_in self.order.now)) self.glob self.own (bound_by self.table.now) self.source) c.names-names.result.now c.names.name-index _
    c.names.entries.items c.push_name.new.entries.items _ c.names-test.true c.in_ok-push_name.ensures c.names.invariant

pub returns : goal.returns
returns c =
    let self = c.args.self.now in
    let entries_of = name_entries (order_over (chain_in self.order.now)) self.glob self.own (bound_by self.table.now) self.source in
    gathers_all entries_of c.names-names.result.now c.names.name-index c.names.entries.items _ c.names-test.false c.names.invariant
    ∙ ap (λ l. l ++ flat_map entries_of c.names-names.result.now) c.in_ok-reserve.ensures.items
    ∙ ap (λ l. c.args.entries.now.items ++ flat_map entries_of l) c.names-names.ensures
