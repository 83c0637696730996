use Rattle.std.proofs.Common.{rules}
use Rattle.def_bindings.proofs.puts.settle_over.Goals as goal

pub returns-in-None-default : goal.returns-in-None-default
returns-in-None-default g c = search rules

pub returns-in-Some-None : goal.returns-in-Some-None
returns-in-Some-None g c = search rules
