use Rattle.std.proofs.Common.{◌≡◌, length}
use Rattle.def_map.specs.ItemScopes.{names_of}
use Rattle.def_map.proofs.scope_bindings.NamesOfIterator.next.Given as goal

abbrev pub invariant-loop-entry : goal.invariant-loop-entry
invariant-loop-entry l = record {
  same_def : l.self-inside.def ≡ l.initial.self-inside.def;
  same_rest : names_of l.self-inside.def l.self-inside.entries ≡ names_of l.initial.self-inside.def l.initial.self-inside.entries;
}

abbrev pub decreases-loop-entry : goal.decreases-loop-entry
decreases-loop-entry l = length l.self-inside.entries
