use Rattle.std.proofs.Common.{Some, None}
use Rattle.def_tables.proofs.NumberedTableLemmas.{edge_numbered}
use Rattle.def_tables.specs.NumberedTable.{content_of}
use Rattle.def_tables.proofs.numbered_table.NumberedTable.numbered_edge.Goals as goal

pub returns-in-Some-clause-edge : goal.returns-in-Some-clause-edge
unfolding content_of
returns-in-Some-clause-edge g c = edge_numbered c.args.self.now.edges.entries.entries c.args.number (Some (c.in-Some.source, c.in-Some.importer, c.in-Some.link)) c.in-Some.ensures.entry

pub returns-in-None-clause-edge : goal.returns-in-None-clause-edge
unfolding content_of
returns-in-None-clause-edge g c = edge_numbered c.args.self.now.edges.entries.entries c.args.number None c.in-None.ensures.entry
