-- All that the finished maps of a database show beside their bindings.
use Rattle.std.specs.Prelude.{Option}
use Rattle.std.specs.Option.{option_map_or}
use Rattle.tree_ids.specs.declared.ids.BlockId.{BlockId}
use Rattle.tree_ids.specs.declared.ids.Crate.{Crate}
use Rattle.def_ids.specs.declared.ids.MapId.{MapId}
use Rattle.def_modules.specs.MapState.{MapState}

-- that of the map of each crate and of each block, if it is there
pub record MapStates : Type 0 where
  pub of_crate : Crate → Option MapState
  pub of_block : BlockId → Option MapState

-- that of a finished map
abbrev pub finished_state : MapStates → MapId → Option MapState
finished_state states id = option_map_or states.of_block id.block (states.of_crate id.krate)
