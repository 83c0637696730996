use Rattle.std.proofs.Common.{subst, sym, ◌∙◌}
use Rattle.def_collector.specs.Collector.{state_of}
use Rattle.def_rules.specs.State.{IsBare}
use Rattle.def_collector.proofs.WakeLemmas.{moved_unwatched}
use Rattle.def_collector.proofs.wakes.record_next.Goals as goal

pub turns-preserved : goal.turns-preserved
turns-preserved g c = c.in_ok-try_woken.ensures.same c.if-branch.false ∙ c.turns.invariant

pub returns-in_ok-wake_all-clause-moved : goal.returns-in_ok-wake_all-clause-moved
returns-in_ok-wake_all-clause-moved g c = λ _.
    moved_unwatched (g.D.SourceDatabase.oracle c.args.db.now) c.args.session.now _ _ c.try_woken.new.collector c.wake_changed.new.table
    c.turns.invariant c.wake_changed.ensures (c.in_ok-try_woken.ensures.moved c.if-branch.true)

pub returns-else-ne-clause-moved : goal.returns-else-ne-clause-moved
returns-else-ne-clause-moved g c = λ _.
    moved_unwatched (g.D.SourceDatabase.oracle c.args.db.now) c.args.session.now _ _ c.try_woken.new.collector c.wake_changed.new.table
    c.turns.invariant c.wake_changed.ensures (c.in_ok-try_woken.ensures.moved c.if-branch.true)

pub returns-clause-same : goal.returns-clause-same
returns-clause-same g c = λ _. c.turns.invariant

pub try_woken-requires : goal.try_woken-requires
try_woken-requires g c = subst (λ k. IsBare (state_of k c.args.session.now)) (sym c.turns.invariant) c.requires
