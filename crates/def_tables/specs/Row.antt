-- What the row of one module contains.
use Rattle.std.specs.Prelude.{◌≡◌, Option, List, [], map}
use Rattle.std.specs.Map.{keys_of}
use Rattle.def_ids.specs.declared.ids.TraitId.{TraitId}
use Rattle.tree_ids.specs.declared.name.Name.{Name}
use Rattle.def_bindings.specs.declared.bindings.Namespace.{Namespace}
use Rattle.def_bindings.specs.declared.bindings.Binding.{Binding}
use Rattle.def_bindings.specs.declared.bindings.EdgeTo.{EdgeTo}
use Rattle.def_tables.specs.declared.row.Row.{Row}
use Rattle.def_tables.specs.Link.{edge_of}
use Rattle.def_tables.specs.RowEntries.{binding_in}

module _ {V : Type 0} where
  abbrev pub row_binding : Row V → Name → Namespace → Option (Binding V)
  row_binding r x n = binding_in r.names.entries x n

  abbrev pub row_names : Row V → List Name
  row_names r = keys_of r.names.entries

  abbrev pub row_unnamed : Row V → List (TraitId × V)
  row_unnamed r = r.unnamed.entries

  abbrev pub row_edges : Row V → List (EdgeTo V)
  row_edges r = map edge_of r.edges.entries

  abbrev pub SameBindings : Row V → Row V → Type 0
  SameBindings old new = new.names.entries ≡ old.names.entries

  abbrev pub SameUnnamed : Row V → Row V → Type 0
  SameUnnamed old new = new.unnamed.entries ≡ old.unnamed.entries

  abbrev pub SameEdges : Row V → Row V → Type 0
  SameEdges old new = new.edges.entries ≡ old.edges.entries

  -- nothing is there
  pub record IsNew (r : Row V) : Type 0 where
    pub names : r.names.entries ≡ []
    pub unnamed : r.unnamed.entries ≡ []
    pub edges : r.edges.entries ≡ []
