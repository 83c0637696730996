-- What a run is given.
use Rattle.std.specs.Prelude.{Option}
use Rattle.tree_ids.specs.declared.ids.TreeId.{TreeId}
use Rattle.def_map.specs.declared.def_map.DefMap.{DefMap}
use Rattle.def_map.specs.DefMaps as whole
use Rattle.def_map.specs.Oracle.{Oracle}
use Rattle.def_modules.specs.MapView.{LocalView}
use Rattle.def_rules.specs.State.{Setting}

-- what a run is given
abbrev pub setting_of : Oracle → DefMap → TreeId → Option LocalView → Setting
setting_of oracle m tree local = record { oracle = oracle; seeded = whole.state_of m; tree = tree; crate_local = local }
