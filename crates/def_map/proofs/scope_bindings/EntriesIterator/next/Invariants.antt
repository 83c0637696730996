use Rattle.std.proofs.Common.{◌≡◌, None, length}
use Rattle.def_map.specs.ItemScopes.{entries_of}
use Rattle.def_map.proofs.scope_bindings.EntriesIterator.next.Given as goal

abbrev pub invariant-loop-name : goal.invariant-loop-name
invariant-loop-name l = record {
  no_values : l.self-inside.values ≡ None;
  no_macros : l.self-inside.macros ≡ None;
  same_rest : entries_of l.self-inside.later ≡ entries_of l.initial.self-inside.later;
}

abbrev pub decreases-loop-name : goal.decreases-loop-name
decreases-loop-name l = length l.self-inside.later
