-- What the maps of crates and blocks begin with.
use Rattle.std.specs.Prelude.{None, Some}
use Rattle.tree_ids.specs.declared.ids.BlockId.{BlockId}
use Rattle.tree_ids.specs.declared.ids.Crate.{Crate}
use Rattle.def_ids.specs.declared.ids.MapId.{MapId}
use Rattle.def_ids.specs.declared.edition.Edition.{Edition}
use Rattle.def_modules.specs.MapState.{MapState}
use Rattle.def_modules.specs.Maps.{crate_state}
use Rattle.def_modules.specs.declared.block.BlockData.{BlockData}
use Rattle.def_modules.specs.Fresh.{block_crate, fresh_state}

-- which map a block's is
abbrev pub block_id : BlockData → MapId
block_id b = record { krate = b.krate; block = Some b.block }

-- the map that a block begins with
abbrev pub block_state : Edition → BlockData → MapState
block_state edition b = fresh_state (block_id b) b.containing (block_crate edition (crate_state b.data))

-- the map of a crate
abbrev pub crate_map_id : Crate → MapId
crate_map_id krate = record { krate = krate; block = None }

-- the map of a block of a map's crate
abbrev pub block_map_id : MapState → BlockId → MapId
block_map_id s block = record { krate = s.id.krate; block = Some block }
