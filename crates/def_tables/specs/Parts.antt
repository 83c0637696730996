-- What names stand for that stand for more than has a short form.
use Rattle.std.specs.Prelude.{Bool, true, false, ◌&&◌, Option, Some, None}
use Rattle.def_ids.specs.declared.ids.MapId.{MapId}
use Rattle.def_bindings.specs.declared.bindings.Namespace.{Namespace}
use Rattle.def_bindings.specs.declared.bindings.Namespace.TheVariants.{Types, Values, Macros}
use Rattle.def_bindings.specs.declared.bindings.Binding.{Binding}
use Rattle.def_tables.specs.declared.part.Part.{Part}
use Rattle.def_tables.specs.declared.part.Part.TheVariants.{Vacant, Numbers, Whole}
use Rattle.def_tables.specs.declared.parts.Parts.{Parts}
use Rattle.def_tables.specs.Short.{long}

module _ {V K : Type 0} where
  abbrev pub is_vacant : Part V K → Bool
  is_vacant Vacant = true
  is_vacant _ = false

  -- the binding, in a table of this map
  abbrev pub part_in : (MapId → K → V) → MapId → Part V K → Option (Binding V)
  part_in meaning map Vacant = None
  part_in meaning map (Numbers short) = Some (long meaning map short)
  part_in meaning map (Whole binding) = Some binding.value

  abbrev pub part_at : Parts V K → Namespace → Part V K
  part_at p Types = p.types
  part_at p Values = p.values
  part_at p Macros = p.macros

  abbrev pub parts_in : (MapId → K → V) → MapId → Parts V K → Namespace → Option (Binding V)
  parts_in meaning map p n = part_in meaning map (part_at p n)

  abbrev pub all_vacant : Parts V K → Bool
  all_vacant p = is_vacant p.types && is_vacant p.values && is_vacant p.macros

  -- whether nothing stands in the two other namespaces
  abbrev pub is_alone : Parts V K → Namespace → Bool
  is_alone p Types = is_vacant p.values && is_vacant p.macros
  is_alone p Values = is_vacant p.types && is_vacant p.macros
  is_alone p Macros = is_vacant p.types && is_vacant p.values
