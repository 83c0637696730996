-- What a constructor's visibility means in the world of a state.
use Rattle.std.proofs.Common.{◌≡◌, refl}
use Rattle.item_tree.specs.declared.items.CtorVisibility.{CtorVisibility}
use Rattle.item_tree.specs.declared.items.CtorVisibility.TheVariants.{NoValueNsCtor, ValueNsCtorWithVis, ValueNsCtorWithMinVis}
use Rattle.def_ids.specs.declared.ids.ModuleId.{ModuleId}
use Rattle.def_map.specs.Oracle.{Oracle}
use Rattle.def_collector.specs.Constructors.{ctor_vis_in}
use Rattle.def_rules.specs.Items.{ctor_vis}
use Rattle.def_rules.specs.State.{State, world}

-- a world says of a state's constructors what the rules say
pub ctor_vis_same : (oracle : Oracle) (s : State) (at : ModuleId) (ctor : CtorVisibility) → ctor_vis_in (world oracle s) at ctor ≡ ctor_vis oracle s at ctor
ctor_vis_same oracle s at NoValueNsCtor = refl
ctor_vis_same oracle s at (ValueNsCtorWithVis raw) = refl
ctor_vis_same oracle s at (ValueNsCtorWithMinVis raws) = refl
