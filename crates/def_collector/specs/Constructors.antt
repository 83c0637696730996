-- What visibilities mean in a world.
use Rattle.std.specs.Prelude.{Option, Some, None, map, unwrap_or}
use Rattle.item_tree.specs.declared.items.CtorVisibility.{CtorVisibility}
use Rattle.item_tree.specs.declared.items.CtorVisibility.TheVariants.{NoValueNsCtor, ValueNsCtorWithVis, ValueNsCtorWithMinVis}
use Rattle.item_tree.specs.declared.items.RawVisibility.{RawVisibility}
use Rattle.def_ids.specs.declared.ids.ModuleId.{ModuleId}
use Rattle.def_bindings.specs.declared.visibility.Visibility.{Visibility}
use Rattle.def_bindings.specs.declared.visibility.Visibility.TheVariants.{Public}
use Rattle.def_bindings.specs.Visibility.{order_over}
use Rattle.def_bindings.specs.Order.{Order}
use Rattle.def_map.specs.Paths.{resolve_visibility}
use Rattle.def_map.specs.Sources.{World}
use Rattle.def_rules.specs.Items.{least_in}

-- which visibilities reach further in a world's map
abbrev pub order_in : World → Order Visibility
order_in w = order_over w.map.facts.chain

-- what a written visibility means in a module, which is public where it means nothing
abbrev pub vis_in : World → ModuleId → RawVisibility → Visibility
vis_in w at raw = unwrap_or (resolve_visibility w at raw) Public

-- a constructor's visibility, if it has one: as it is written, or the least of those of its fields
abbrev pub ctor_vis_in : World → ModuleId → CtorVisibility → Option Visibility
ctor_vis_in w at NoValueNsCtor = None
ctor_vis_in w at (ValueNsCtorWithVis raw) = Some (vis_in w at raw)
ctor_vis_in w at (ValueNsCtorWithMinVis raws) = least_in (order_in w) (map (λ raw. vis_in w at raw) raws)
