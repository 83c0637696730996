use Rattle.std.proofs.Common.{◌≡◌, length, drop}
use Rattle.def_map.specs.ItemScopes.{place_of, scope_content, bound_from}
use Rattle.def_map.proofs.scope_bindings.BoundNamesIterator.next.Given as goal

abbrev pub invariant-loop-name : goal.invariant-loop-name
invariant-loop-name l = record {
  same_scope : l.self-inside.scope ≡ l.initial.self-inside.scope;
  same_ns : l.self-inside.ns ≡ l.initial.self-inside.ns;
  same_rest : bound_from l.self-inside.next l.self-inside.ns (scope_content l.self-inside.scope) (place_of l.self-inside.scope)
      ≡ bound_from l.initial.self-inside.next l.initial.self-inside.ns (scope_content l.initial.self-inside.scope) (place_of l.initial.self-inside.scope);
}

abbrev pub decreases-loop-name : goal.decreases-loop-name
decreases-loop-name l = length (drop l.self-inside.next ((scope_content l.self-inside.scope).names (place_of l.self-inside.scope)))
