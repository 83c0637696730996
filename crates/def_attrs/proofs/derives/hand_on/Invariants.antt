use Rattle.std.proofs.Common.{◌≡◌, drop, map}
use Rattle.def_modules.specs.Maps.{helper_state, map_state}
use Rattle.def_rules.specs.Calls.{each_helped}
use Rattle.def_attrs.proofs.derives.hand_on.Given as goal

abbrev pub invariant-items : goal.invariant-items
invariant-items g l =
    each_helped (g.D.SourceDatabase.oracle l.db) (map_state l.def_map) l.tree_id (map helper_state l.helpers.items) (drop l.id-index l.tree.top)
    ≡ each_helped (g.D.SourceDatabase.oracle l.db) (map_state l.initial.def_map) l.tree_id (map helper_state l.helpers.items) l.tree.top
