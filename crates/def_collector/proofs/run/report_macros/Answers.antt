use Rattle.std.proofs.Common.{◌<◌, ◌≤◌, length, arith}
use Rattle.def_collector.proofs.MacroPassLemmas.{reported_all, reported_more, reported_none}
use Rattle.def_collector.proofs.run.report_macros.Goals as goal

pub left-init : goal.left-init
left-init g c = reported_none (g.D.SourceDatabase.oracle c.args.db.now) c.args.session.now c.args.collector.now

pub left-preserved : goal.left-preserved
left-preserved g c =
    let all = c.args.collector.now.unresolved_macros in
    let before = c.left-test.true in
    let end = c.len-i-end.ensures in
    let long = all.ok.0 in
    let within : c.left.i < length all.items = omega (arith, before, end, long) in
    reported_more (g.D.SourceDatabase.oracle c.args.db.now) c.args.session.now c.args.collector.now c.left.collector c.report_macro.new.collector c.left.i c.left.invariant within
    c.report_macro.ensures.frame c.in_ok-report_macro.ensures.told

pub returns : goal.returns
returns g c =
    let all = c.args.collector.now.unresolved_macros in
    let past = c.left-test.false in
    let end = c.len-i-end.ensures in
    let long = all.ok.0 in
    let whole : length all.items ≤ c.left.i = omega (arith, past, end, long) in
    reported_all (g.D.SourceDatabase.oracle c.args.db.now) c.args.session.now c.args.collector.now c.left.collector c.left.i c.left.invariant whole
