use Rattle.std.proofs.Common.{◌≡◌, ◌-◌, length}
use Rattle.def_tables.specs.Lists.{row_in}
use Rattle.def_tables.proofs.lists.pad.Given as goal

-- no row has a list that had none
abbrev pub invariant-rows : goal.invariant-rows
invariant-rows g l = (map : _) → row_in map l.rows.items ≡ row_in map l.initial.rows.items

abbrev pub decreases-rows : goal.decreases-rows
decreases-rows g l = l.len - length l.rows.items
