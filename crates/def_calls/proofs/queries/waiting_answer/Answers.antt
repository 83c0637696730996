use Rattle.std.proofs.Common.{rules}
use Rattle.def_calls.proofs.queries.waiting_answer.Goals as goal

pub returns : goal.returns
returns g c = search rules
