use Rattle.std.proofs.Common.{rules, sym, ◌∙◌}
use Rattle.def_tables.specs.NumberedTable.{other_rows, own_rows}
use Rattle.def_tables.proofs.NumberedTableLemmas.{own-here}
use Rattle.def_tables.proofs.numbered_table.NumberedTable.bound_at_near.Goals as goal

pub returns : goal.returns
returns g c =
    let t = c.args.self.now in
    c.get_near.ensures ∙ sym (own-here g.K.Kept.meaning t.map (own_rows t) (own_rows t) (other_rows t) (other_rows t) c.args.module c.args.name (search rules))
