use Rattle.std.proofs.Common.{◌≡◌, take}
use Rattle.std.specs.Prelude.{filter, not}
use Rattle.def_calls.proofs.directives.put_asked_first.Given as goal

abbrev pub invariant-directives : goal.invariant-directives
invariant-directives l = l.queued.items ≡ filter (λ d. not d.asked) (take l.i l.directives.items)
