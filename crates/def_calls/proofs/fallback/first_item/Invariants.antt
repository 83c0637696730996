use Rattle.std.proofs.Common.{take}
use Rattle.def_calls.proofs.FallbackLemmas.{HasNoItem}
use Rattle.def_calls.proofs.fallback.first_item.Given as goal

abbrev pub invariant-directives : goal.invariant-directives
invariant-directives l = HasNoItem (take l.at l.directives.items)
