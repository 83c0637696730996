use Rattle.std.proofs.Common.{◌≡◌, ◌-◌, drop, length}
use Rattle.def_bindings.specs.Puts.{edge_to}
use Rattle.def_bindings.proofs.binding_table.BindingTable.edge_to.Given as goal

-- what is left of the list decides
abbrev pub invariant-edges : goal.invariant-edges
invariant-edges g l =
    let all = (g.Self.BindingTable.content l.self).edges l.module in
    edge_to (drop l.index all) l.importer ≡ edge_to all l.importer

abbrev pub decreases-edges : goal.decreases-edges
decreases-edges g l = length ((g.Self.BindingTable.content l.self).edges l.module) - l.index
