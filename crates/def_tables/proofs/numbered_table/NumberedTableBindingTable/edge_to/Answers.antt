use Rattle.std.proofs.Common.{Some, None}
use Rattle.def_tables.specs.Numbers.{own_entries}
use Rattle.def_tables.proofs.LinkLemmas.{edge_to-found}
use Rattle.def_tables.specs.NumberedTable.{content_of}
use Rattle.def_tables.proofs.numbered_table.NumberedTableBindingTable.edge_to.Goals as goal

pub returns-in-Some : goal.returns-in-Some
unfolding content_of
returns-in-Some g c = edge_to-found (own_entries c.args.self.now.edges.entries.entries c.args.module) c.args.importer (Some c.in-Some.link) c.in-Some.ensures

pub returns-in-None : goal.returns-in-None
unfolding content_of
returns-in-None g c = edge_to-found (own_entries c.args.self.now.edges.entries.entries c.args.module) c.args.importer None c.in-None.ensures
