use Rattle.std.proofs.Common.{ap}
use Rattle.def_tables.specs.BoundName.{meaning_of}
use Rattle.def_tables.specs.NumberedTable.{content_of}
use Rattle.def_tables.proofs.numbered_table.NumberedTable.found_near.Goals as goal

pub returns-in-Some : goal.returns-in-Some
unfolding content_of
returns-in-Some g c = ap (meaning_of g.K.Kept.meaning c.args.self.now.map) c.in-Some.ensures
