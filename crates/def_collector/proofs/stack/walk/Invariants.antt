use Rattle.def_collector.specs.Collector.{state_of}
use Rattle.def_collector.specs.Walk.{list_tasks, walk_measure}
use Rattle.def_collector.proofs.VisitLemmas.{IsWalked}
use Rattle.def_collector.proofs.stack.walk.Given as goal

abbrev pub invariant-frames : goal.invariant-frames
invariant-frames g l =
    let oracle = g.D.SourceDatabase.oracle l.db in
    IsWalked oracle (list_tasks oracle l.fn.first) (state_of l.fn.collector l.fn.session) l.frames.items (state_of l.collector l.session)

abbrev pub decreases-frames : goal.decreases-frames
decreases-frames g l = walk_measure l.frames.items
