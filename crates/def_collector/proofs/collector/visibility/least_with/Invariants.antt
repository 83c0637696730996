use Rattle.std.proofs.Common.{◌≡◌, List, map, drop}
use Rattle.item_tree.specs.declared.items.RawVisibility.{RawVisibility}
use Rattle.def_bindings.specs.declared.visibility.Visibility.{Visibility}
use Rattle.def_map.specs.Asking.{world_lent}
use Rattle.def_map.specs.Sources.{World}
use Rattle.def_sources.specs.Tables.{bound_by}
use Rattle.def_collector.specs.Constructors.{order_in, vis_in}
use Rattle.def_rules.specs.Items.{least_of}
use Rattle.def_collector.proofs.collector.visibility.least_with.Given as goal

abbrev pub invariant-fields : goal.invariant-fields
invariant-fields g l =
    let w : World = world_lent g.D.SourceDatabase.oracle bound_by l.fn.world in
    let seen : List RawVisibility → List Visibility = map (λ raw. vis_in w l.fn.module_id raw) in
    least_of (order_in w) l.fn.first (seen l.fn.fields) ≡ least_of (order_in w) l.least (seen (drop l.field-index l.fn.fields))
