use Rattle.std.proofs.Common.{[], ◌≤◌, arith, subst, sym, ◌∙◌}
use Rattle.def_collector.specs.Collector.{state_of}
use Rattle.def_laws.specs.Runs.{Leads}
use Rattle.def_laws.specs.Turns.{turns_left}
use Rattle.def_laws.proofs.StepsLaws.{leads_bare, leads_refl, leads_trans}
use Rattle.def_collector.proofs.WakeLemmas.{with_imports, with_table}
use Rattle.def_rules.specs.State.{State}
use Rattle.def_collector.proofs.wakes.record_woken.Goals as goal

pub woken-init : goal.woken-init
woken-init g c =
    let old : State = state_of c.args.collector.now c.args.session.now in
    let same = with_table c.args.session.now c.args.collector.now c.watch.new.self c.watch.ensures in
    record {
      run = subst (λ s. Leads (g.D.SourceDatabase.oracle c.args.db.now) [] old [] s) (sym same) (leads_refl [] old);
      turns = subst (λ s. turns_left s ≤ turns_left old) (sym same) (omega arith);
    }

pub woken-preserved : goal.woken-preserved
woken-preserved g c =
    let moves = c.in_ok-record_next.ensures.moved c.if-branch.true in
    let less = moves.fewer in
    let most = c.woken.invariant.turns in
    record { run = leads_trans c.woken.invariant.run moves.leads; turns = omega (arith, less, most) }

pub woken-smaller : goal.woken-smaller
woken-smaller g c = (c.in_ok-record_next.ensures.moved c.if-branch.true).fewer

pub returns-clause-run : goal.returns-clause-run
returns-clause-run g c =
    let last = c.in_ok-record_next.ensures.same c.if-branch.false in
    let same = with_imports c.args.session.now c.record_next.new.collector c.unwatch.new.self c.drop_left-2.new.self c.unwatch.ensures (c.drop_left-2.ensures ∙ c.drop_left.ensures) in
    subst (λ s. Leads (g.D.SourceDatabase.oracle c.args.db.now) [] (state_of c.args.collector.now c.args.session.now) [] s) (sym same)
    (subst (λ k. Leads (g.D.SourceDatabase.oracle c.args.db.now) [] (state_of c.args.collector.now c.args.session.now) [] (state_of k c.args.session.now)) (sym last) c.woken.invariant.run)

pub returns-clause-turns : goal.returns-clause-turns
returns-clause-turns g c =
    let last = c.in_ok-record_next.ensures.same c.if-branch.false in
    let same = with_imports c.args.session.now c.record_next.new.collector c.unwatch.new.self c.drop_left-2.new.self c.unwatch.ensures (c.drop_left-2.ensures ∙ c.drop_left.ensures) in
    subst (λ s. turns_left s ≤ turns_left (state_of c.args.collector.now c.args.session.now)) (sym same)
    (subst (λ k. turns_left (state_of k c.args.session.now) ≤ turns_left (state_of c.args.collector.now c.args.session.now)) (sym last) c.woken.invariant.turns)

pub record_next-requires : goal.record_next-requires
record_next-requires g c = leads_bare c.woken.invariant.run c.requires
