use Rattle.std.proofs.Common.{◌≡◌, None, map, take}
use Rattle.def_attrs.proofs.derives.no_calls.Given as goal

abbrev pub invariant-paths : goal.invariant-paths
invariant-paths l = l.calls.items ≡ map (λ path. None) (take l.path-index l.paths)
