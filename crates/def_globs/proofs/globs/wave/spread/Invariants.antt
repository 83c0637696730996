use Rattle.def_globs.proofs.SumsLemmas.{all_vis}
use Rattle.def_globs.proofs.WavingLemmas.{Wave}
use Rattle.def_globs.proofs.MeasureLemmas.{measure}
use Rattle.def_globs.proofs.globs.wave.spread.Given as goal

abbrev pub invariant-frames : goal.invariant-frames
invariant-frames g l =
    let content = g.T.BindingTable.content in
    let seen = all_vis (content l.fn.table) l.fn.module l.fn.slots.items (g.T.BindingTable.sources l.fn.table) in
    Wave (g.O.VisOrder.order l.order) l.fn.module l.fn.slots.items seen (content l.fn.table) (content l.table) l.frames.items

abbrev pub decreases-frames : goal.decreases-frames
decreases-frames g l =
    let content = g.T.BindingTable.content in
    measure (g.O.VisOrder.order l.order) (g.O.VisOrder.height l.order) l.fn.module l.fn.slots.items (g.T.BindingTable.sources l.fn.table) (content l.fn.table) (content l.table) l.frames.items
