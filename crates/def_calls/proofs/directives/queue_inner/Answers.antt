use Rattle.std.proofs.Common.{append-nil, sym}
use Rattle.def_calls.proofs.WaitingLemmas.{inner_all, inner_more}
use Rattle.def_calls.proofs.directives.queue_inner.Goals as goal

pub calls-init : goal.calls-init
calls-init c = sym (append-nil c.args.inner_calls.now.items)

pub calls-preserved : goal.calls-preserved
calls-preserved c =
    inner_more c.args.inner_calls.now.items c.calls.inner_calls.items c.push.new.self.items c.args.module_id c.args.calls.now c.calls.call-index _ c.calls-test.true c.in_ok-push.ensures.items c.calls.invariant

pub returns : goal.returns
returns c = inner_all c.args.inner_calls.now.items c.calls.inner_calls.items c.args.module_id c.args.calls.now c.calls.call-index c.calls-test.false c.calls.invariant
