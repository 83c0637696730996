-- What the table of a map contains.
use Rattle.std.specs.Prelude.{Option}
use Rattle.def_tables.specs.declared.found.Found.{Found}
use Rattle.def_tables.specs.declared.numbered_table.NumberedTable.{NumberedTable}
use Rattle.def_bindings.specs.declared.bindings.Binding.{Binding}
use Rattle.def_bindings.specs.declared.bindings.Namespace.{Namespace}
use Rattle.def_bindings.specs.declared.visibility.Visibility.{Visibility}
use Rattle.def_tables.specs.declared.kept.VisNumber.{VisNumber}
use Rattle.def_bindings.specs.Content.{Content}
use Rattle.def_tables.specs.Found.{meant_by}
use Rattle.def_tables.specs.Kept.{numbered_vis}
use Rattle.def_tables.specs.NumberedTable as table

-- the table of a map
abbrev pub Table : Type 0
Table = NumberedTable Visibility VisNumber

-- what is bound, which traits have no name, and where globs lead
abbrev pub bound_by : Table → Content Visibility
bound_by = table.content_of numbered_vis

-- what a name stands for that was found in it
abbrev pub found_by : Found Visibility VisNumber → Namespace → Option (Binding Visibility)
found_by = meant_by numbered_vis
