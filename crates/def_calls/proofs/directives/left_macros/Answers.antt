use Rattle.std.proofs.Common.{ap, map, arith, ◌∙◌}
use Rattle.def_calls.proofs.WaitingLemmas.{left_more, macros_all}
use Rattle.def_rules.specs.Report.{left_macro}
use Rattle.def_calls.proofs.directives.left_macros.Goals as goal

pub directives-preserved : goal.directives-preserved
directives-preserved c =
    let all = c.args.directives.now.items in
    let long = c.args.directives.now.ok.0 in
    let end = c.len-i-end.ensures in
    let test = c.directives-test.true in
    left_more c.directives.left.items c.push.new.self.items c.in_ok-left_macro.field-0 all c.directives.i c.index.result.now c.directives.invariant (omega (arith, test, end, long)) c.index.ensures
    c.in_ok-push.ensures.items c.in_ok-left_macro.ensures

pub returns : goal.returns
returns c =
    let all = c.args.directives.now.items in
    let long = c.args.directives.now.ok.0 in
    let end = c.len-i-end.ensures in
    let test = c.directives-test.false in
    c.directives.invariant ∙ ap (map left_macro) (macros_all all c.directives.i (omega (arith, test, end, long)))
