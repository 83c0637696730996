use Rattle.std.proofs.lemmas.Grind.{common_steps}
use Rattle.std.proofs.Common.{arith}
use Rattle.def_calls.proofs.directives.record_inner.Goals as goal

pub calls-preserved : goal.calls-preserved
calls-preserved c = grind (arith, common_steps)
