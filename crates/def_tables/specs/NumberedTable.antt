-- What a numbered table contains.
use Rattle.std.specs.Prelude.{List, map}
use Rattle.std.specs.List.{zip}
use Rattle.tree_ids.specs.declared.name.Name.{Name}
use Rattle.def_ids.specs.declared.ids.MapId.{MapId}
use Rattle.def_ids.specs.declared.ids.ModuleId.{ModuleId}
use Rattle.def_bindings.specs.declared.bindings.EdgeTo.{EdgeTo}
use Rattle.def_tables.specs.declared.bound_name.BoundName.{BoundName}
use Rattle.def_tables.specs.declared.numbered_table.NumberedTable.{NumberedTable}
use Rattle.def_tables.specs.declared.place.OwnPlace.{OwnPlace}
use Rattle.def_tables.specs.declared.place.Placed.{Placed}
use Rattle.def_bindings.specs.Content.{Content}
use Rattle.def_tables.specs.Link.{edge_of}
use Rattle.def_tables.specs.Lists.{lists_of}
use Rattle.def_tables.specs.Numbers.{own_entries}
use Rattle.def_tables.specs.Places.{bindings_of}

-- what stands for something in the modules of the table's map
abbrev pub own_rows : {V K : Type 0} → NumberedTable V K → List (OwnPlace × BoundName V K)
own_rows t = zip t.own.keys.keys t.own.values.items

-- what stands for something in those of other maps
abbrev pub other_rows : {V K : Type 0} → NumberedTable V K → List (Placed Name × BoundName V K)
other_rows t = zip t.others.keys.keys t.others.values.items

-- a word of its own to those who use a table: only the proofs of this crate look into it
unfoldable pub content_of : {V K : Type 0} → (MapId → K → V) → NumberedTable V K → Content V
content_of meaning t = record {
  binding = bindings_of meaning t.map (own_rows t) (other_rows t);
  names = lists_of t.names;
  unnamed = own_entries t.unnamed.entries.entries;
  edges = λ m. map edge_of (own_entries t.edges.entries.entries m);
}

-- all edges in order of recording, each with its source
abbrev pub all_edges : {V K : Type 0} → NumberedTable V K → List (ModuleId × EdgeTo V)
all_edges t = map (λ e. (e.0.at, edge_of (e.0.key, e.1))) t.edges.entries.entries
