-- Edges from their importers and links.
use Rattle.def_ids.specs.declared.ids.ModuleId.{ModuleId}
use Rattle.def_bindings.specs.declared.bindings.EdgeTo.{EdgeTo}
use Rattle.def_tables.specs.declared.link.Link.{Link}

-- an edge from its importer and the rest
abbrev pub edge_of : {V : Type 0} → (ModuleId × Link V) → EdgeTo V
edge_of p = record { importer = p.0; vis = p.1.vis; glob = p.1.glob }

-- an edge without its importer
abbrev pub link_of : {V : Type 0} → EdgeTo V → Link V
link_of e = record { vis = e.vis; glob = e.glob }
