use Rattle.def_globs.proofs.TurnsLemmas.{CopiedSoFar}
use Rattle.def_globs.proofs.globs.wave.copy_all.Given as goal

-- the slots so far and those to come are those of the whole list, and so is the content
abbrev pub invariant-loop-slot : goal.invariant-loop-slot
invariant-loop-slot g l =
    let content = g.T.BindingTable.content in
    CopiedSoFar (g.O.VisOrder.order l.order) l.source l.edge l.slots (content l.fn.table) l.slot-index l.changed.items (content l.table)
