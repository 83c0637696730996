use Rattle.std.proofs.Common.{◌≡◌, ◌++◌, map, take}
use Rattle.def_calls.specs.Shown.{expansion_shown}
use Rattle.def_rules.specs.Deferred.{deferred_expansion}
use Rattle.def_attrs.proofs.deferred.expand_deferred.Given as goal

abbrev pub invariant-derives : goal.invariant-derives
invariant-derives l = map expansion_shown l.expansions.items ≡ map expansion_shown l.fn.expansions.items ++ map deferred_expansion (take l.derive-index l.derive-items)
