use Rattle.std.proofs.Common.{Some, None}
use Rattle.def_tables.proofs.LinkLemmas.{edge_to-found}
use Rattle.def_tables.proofs.row.Row.edge_to.Goals as goal

pub returns-in-Some : goal.returns-in-Some
returns-in-Some g c = edge_to-found c.args.self.now.edges.entries c.args.importer (Some c.in-Some.link.now) c.in-Some.ensures.value

pub returns-in-None : goal.returns-in-None
returns-in-None g c = edge_to-found c.args.self.now.edges.entries c.args.importer None c.in-None.ensures.value
