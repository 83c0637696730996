use Rattle.std.proofs.Common.{ap}
use Rattle.std.specs.Prelude.{map}
use Rattle.def_tables.specs.Link.{edge_of}
use Rattle.def_tables.specs.Numbers.{own_entries}
use Rattle.def_tables.specs.NumberedTable.{content_of}
use Rattle.def_tables.proofs.NumberedTableLemmas.{edges-set, content-edges}
use Rattle.def_tables.proofs.ResultLemmas.{OnOk_then, OnErr_then}
use Rattle.def_tables.proofs.numbered_table.NumberedTableBindingTable.set_edge.Goals as goal

pub returns-clause-done : goal.returns-clause-done
unfolding content_of
returns-clause-done g c =
    let old = own_entries c.args.self.now.edges.entries.entries in
    let new = own_entries c.set.new.self.entries.entries in
    OnOk_then c.set.result c.set.ensures.done (λ set. content-edges (content_of g.K.Kept.meaning c.args.self.now) _ _ (edges-set old new c.args.module c.args.edge c.set.ensures.distinct set))

pub returns-clause-refused : goal.returns-clause-refused
unfolding content_of
returns-clause-refused g c =
    OnErr_then c.set.result c.set.ensures.refused (λ same. content-edges (content_of g.K.Kept.meaning c.args.self.now) _ _ (ap (λ f. (λ m. map edge_of (f m))) same))
