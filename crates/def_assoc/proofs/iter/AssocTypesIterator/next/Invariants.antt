use Rattle.std.proofs.Common.{◌≡◌, length}
use Rattle.std.specs.Slice.Iter.{iter_rest}
use Rattle.def_assoc.specs.AssocItems.{type_aliases}
use Rattle.def_assoc.proofs.iter.AssocTypesIterator.next.Given as goal

-- the items so far are no type aliases
abbrev pub invariant-loop-item : goal.invariant-loop-item
invariant-loop-item l = type_aliases (iter_rest l.self-inside.rest) ≡ type_aliases (iter_rest l.initial.self-inside.rest)

abbrev pub decreases-loop-item : goal.decreases-loop-item
decreases-loop-item l = length (iter_rest l.self-inside.rest)
