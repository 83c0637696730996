use Rattle.std.proofs.Common.{◌∙◌, ap}
use Rattle.def_tables.specs.Lists.{row_in}
use Rattle.def_tables.proofs.ListsLemmas.{rows-padded}
use Rattle.def_tables.proofs.lists.pad.Goals as goal

pub rows-preserved : goal.rows-preserved
rows-preserved g c map = ap (row_in map) c.in_ok-push.ensures.items ∙ rows-padded map c.rows.rows.items ∙ c.rows.invariant map

pub returns-in_err-push-clause-rows : goal.returns-in_err-push-clause-rows
returns-in_err-push-clause-rows g c map = ap (row_in map) c.in_err-push.ensures.items ∙ c.rows.invariant map
