use Rattle.std.proofs.Common.{◌≡◌, drop, map}
use Rattle.def_modules.specs.Maps.{map_state}
use Rattle.def_rules.specs.Calls.{with_helpers}
use Rattle.def_rules.specs.Derives.{helper_of}
use Rattle.def_attrs.proofs.derives.add_names.Given as goal

abbrev pub invariant-names : goal.invariant-names
invariant-names l =
    with_helpers (map_state l.def_map) l.position (map (helper_of l.found l.call) (drop l.name-index l.names))
    ≡ with_helpers (map_state l.initial.def_map) l.position (map (helper_of l.found l.call) l.names)
