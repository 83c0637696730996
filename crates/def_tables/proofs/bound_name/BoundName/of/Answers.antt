use Rattle.std.proofs.Common.{None, Some, ap, ◌∙◌}
use Rattle.def_tables.specs.BoundName.{with_namespace}
use Rattle.def_tables.proofs.ResultLemmas.{IfOk_then}
use Rattle.def_tables.proofs.bound_name.BoundName.of.Goals as goal

pub returns-in-Some : goal.returns-in-Some
returns-in-Some g c = c.one.ensures c.args.map ∙ ap (λ b. with_namespace (λ n. None) c.args.ns (Some b)) c.in-Some.ensures

pub returns-in-None : goal.returns-in-None
returns-in-None g c = IfOk_then c.whole.result c.whole.ensures (λ name is. is c.args.map)
