use Rattle.std.proofs.Common.{◌≡◌}
use Rattle.def_imports.specs.Turns.{turns_to_come}
use Rattle.def_collector.proofs.wakes.record_next.Given as goal

abbrev pub invariant-turns : goal.invariant-turns
invariant-turns g l = l.collector ≡ l.fn.collector

abbrev pub decreases-turns : goal.decreases-turns
decreases-turns g l = turns_to_come l.waking.turns
