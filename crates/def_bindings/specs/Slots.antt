-- Tests of equality of slots and of their places.
use Rattle.std.specs.Prelude.{Bool, false, ◌&&◌}
use Rattle.def_ids.specs.declared.ids.ModuleId.{ModuleId}
use Rattle.def_ids.specs.Ids.{is_same_module}
use Rattle.def_bindings.specs.declared.bindings.Slot.{Slot}
use Rattle.def_bindings.specs.declared.bindings.Slot.TheVariants.{Named, Unnamed}
use Rattle.def_bindings.specs.Content.{is_name, is_namespace, is_trait}

-- whether two slots are one
abbrev pub is_same_slot : Slot → Slot → Bool
is_same_slot (Named a n) (Named b k) = is_name a b && is_namespace n k
is_same_slot (Unnamed a) (Unnamed b) = is_trait a b
is_same_slot (Named a n) (Unnamed b) = false
is_same_slot (Unnamed a) (Named b k) = false

-- whether slots of two modules are one
abbrev pub is_same_place : ModuleId → Slot → ModuleId → Slot → Bool
is_same_place m x n y = is_same_module m n && is_same_slot x y
