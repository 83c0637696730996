use Rattle.std.proofs.Common.{◌≡◌, drop, map}
use Rattle.def_modules.specs.Maps.{helper_state, map_state}
use Rattle.def_rules.specs.Calls.{with_helpers}
use Rattle.def_attrs.proofs.derives.help_item.Given as goal

abbrev pub invariant-helpers : goal.invariant-helpers
invariant-helpers l =
    with_helpers (map_state l.def_map) l.position (map helper_state (drop l.helper-index l.helpers)) ≡ with_helpers (map_state l.initial.def_map) l.position (map helper_state l.helpers)
