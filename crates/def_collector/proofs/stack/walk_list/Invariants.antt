use Rattle.std.proofs.Common.{◌≡◌, ◌≤◌, ◌++◌, List, None, length}
use Rattle.def_interner.specs.Session.{AddsLocations, session_of}
use Rattle.def_collector.specs.Collector.{state_of}
use Rattle.def_collector.specs.Walk.{frame_tasks, is_frame_known}
use Rattle.def_items.specs.Lists.{left_of}
use Rattle.def_rules.specs.State.{Task}
use Rattle.def_laws.specs.Runs.{Leads}
use Rattle.def_laws.specs.Work.{work}
use Rattle.def_collector.proofs.stack.walk_list.Given as goal

abbrev pub invariant-items : goal.invariant-items
invariant-items g l =
    let oracle = g.D.SourceDatabase.oracle l.db in
    record {
      run : (rest : List Task) → Leads oracle (frame_tasks l.fn.frame ++ rest) (state_of l.fn.collector l.fn.session) (frame_tasks l.frame ++ rest) (state_of l.collector l.session);
      fewer : work (frame_tasks l.frame) ≤ work (frame_tasks l.fn.frame);
      known : is_frame_known oracle l.frame;
      adds : AddsLocations (session_of l.fn.session) (session_of l.session);
      empty : l.opened ≡ None;
    }

abbrev pub decreases-items : goal.decreases-items
decreases-items g l = length (left_of l.frame)
