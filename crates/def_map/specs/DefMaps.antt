-- What finished maps show, and what a block's map is made of.
use Rattle.std.specs.Prelude.{[], Option, None, Some}
use Rattle.tree_ids.specs.declared.ids.Crate.{Crate}
use Rattle.def_ids.specs.declared.ids.MapId.{MapId}
use Rattle.def_ids.specs.declared.edition.Edition.{Edition}
use Rattle.def_bindings.specs.declared.visibility.Visibility.{Visibility}
use Rattle.def_bindings.specs.Content.{Content}
use Rattle.def_map.specs.declared.block.BlockInfo.{BlockInfo}
use Rattle.def_map.specs.declared.def_map.DefMap.{DefMap}
use Rattle.def_modules.specs.Fresh.{fresh_crate, fresh_state}
use Rattle.def_modules.specs.Seeds.{block_id, block_state, crate_map_id}
use Rattle.def_modules.specs.MapState.{MapState}
use Rattle.def_modules.specs.MapView.{MapView}
use Rattle.def_modules.specs.Maps.{map_state, facts_of}
use Rattle.def_sources.specs.Tables.{bound_by}

-- what a map shows beside its bindings
abbrev pub state_of : DefMap → MapState
state_of m = map_state m.data

-- what a map binds
abbrev pub content_of : DefMap → Content Visibility
content_of m = bound_by m.table

-- a map as paths see it
abbrev pub view_of : DefMap → MapView
view_of m = record { facts = facts_of m.data; content = content_of m }

-- the map that a block begins with
abbrev pub info_state : Edition → BlockInfo → MapState
info_state edition b = block_state edition b.data

-- which map is seeded: a crate's, or a block's of the crate that the block is of, whichever crate is named
abbrev pub seeded_id : Crate → Option BlockInfo → MapId
seeded_id krate None = crate_map_id krate
seeded_id krate (Some info) = block_id info.data

-- the map that is seeded: a crate's, or a block's
abbrev pub seeded : Crate → Edition → Option BlockInfo → MapState
seeded krate edition None = fresh_state (crate_map_id krate) [] (fresh_crate edition)
seeded krate edition (Some info) = info_state edition info
