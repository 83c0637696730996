use Rattle.std.proofs.Common.{◌≡◌, ◌-◌, drop, length}
use Rattle.def_bindings.specs.Content.{vis_of}
use Rattle.def_bindings.proofs.binding_table.BindingTable.unnamed_vis.Given as goal

-- what is left of the list decides
abbrev pub invariant-items : goal.invariant-items
invariant-items g l =
    let all = (g.Self.BindingTable.content l.self).unnamed l.module in
    vis_of (drop l.index all) l.item ≡ vis_of all l.item

abbrev pub decreases-items : goal.decreases-items
decreases-items g l = length ((g.Self.BindingTable.content l.self).unnamed l.module) - l.index
