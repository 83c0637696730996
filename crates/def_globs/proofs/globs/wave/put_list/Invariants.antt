use Rattle.def_globs.proofs.TurnsLemmas.{PutSoFar}
use Rattle.def_globs.proofs.globs.wave.put_list.Given as goal

-- the slots so far and those to come are those of the whole list, and so is the content
abbrev pub invariant-loop-entry : goal.invariant-loop-entry
invariant-loop-entry g l =
    let content = g.T.BindingTable.content in
    PutSoFar (g.O.VisOrder.order l.order) l.module l.list l.has_edge (content l.fn.table) l.entry-index l.changed.items (content l.table)
