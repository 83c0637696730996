use Rattle.def_tables.proofs.NamesLemmas.{once-same}
use Rattle.def_tables.proofs.NumberedTableLemmas.{listed-same}
use Rattle.def_tables.specs.NumberedTable.{content_of, other_rows, own_rows}
use Rattle.def_tables.specs.Places.{name_of}
use Rattle.def_tables.proofs.numbered_table.NumberedTableBindingTable.expect_names.Goals as goal

pub invariant_of-self : goal.invariant_of-self
unfolding content_of
invariant_of-self g c =
    let t = c.args.self.now in
    record { apart = t.apart; listed = listed-same (name_of t.map (own_rows t) (other_rows t)) _ _ c.expect.ensures t.listed; once = once-same _ _ c.expect.ensures t.once }
