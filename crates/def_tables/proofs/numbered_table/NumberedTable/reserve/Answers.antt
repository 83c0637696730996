use Rattle.std.proofs.Common.{refl}
use Rattle.def_tables.specs.NumberedTable.{content_of}
use Rattle.def_tables.proofs.numbered_table.NumberedTable.reserve.Goals as goal

pub returns : goal.returns
unfolding content_of
returns g c = rw (c.reserve.ensures, c.reserve-2.ensures) refl
