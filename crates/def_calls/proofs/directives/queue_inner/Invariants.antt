use Rattle.std.proofs.Common.{◌≡◌, ◌++◌, map, take}
use Rattle.def_rules.specs.Calls.{inner_call}
use Rattle.def_calls.proofs.directives.queue_inner.Given as goal

abbrev pub invariant-calls : goal.invariant-calls
invariant-calls l = l.inner_calls.items ≡ l.fn.inner_calls.items ++ map (inner_call l.module_id) (take l.call-index l.calls)
