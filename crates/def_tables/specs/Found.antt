-- What a name stands for that a table has found.
use Rattle.std.specs.Prelude.{Option, option_and_then}
use Rattle.def_ids.specs.declared.ids.MapId.{MapId}
use Rattle.def_bindings.specs.declared.bindings.Namespace.{Namespace}
use Rattle.def_bindings.specs.declared.bindings.Binding.{Binding}
use Rattle.def_tables.specs.declared.found.Found.{Found}
use Rattle.def_tables.specs.BoundName.{stands_for}

module _ {V K : Type 0} where
  abbrev pub meant_by : (MapId → K → V) → Found V K → Namespace → Option (Binding V)
  meant_by meaning found = stands_for meaning found.map found.bound.now

  -- nothing, where no name was found
  abbrev pub found_as : (MapId → K → V) → Option (Found V K) → Namespace → Option (Binding V)
  found_as meaning found n = option_and_then (λ f. meant_by meaning f n) found
