use Rattle.def_tables.specs.NumberedTable.{content_of}
use Rattle.def_tables.proofs.NumberedTableLemmas.{content-unnamed}
use Rattle.def_tables.proofs.ResultLemmas.{OnOk_then, OnErr_then}
use Rattle.def_tables.proofs.numbered_table.NumberedTableBindingTable.set_unnamed.Goals as goal

pub returns-clause-done : goal.returns-clause-done
unfolding content_of
returns-clause-done g c = OnOk_then c.set.result c.set.ensures.done (λ set. content-unnamed (content_of g.K.Kept.meaning c.args.self.now) _ _ set)

pub returns-clause-refused : goal.returns-clause-refused
unfolding content_of
returns-clause-refused g c = OnErr_then c.set.result c.set.ensures.refused (λ same. content-unnamed (content_of g.K.Kept.meaning c.args.self.now) _ _ same)
