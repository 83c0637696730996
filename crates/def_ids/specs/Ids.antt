-- Tests on maps and modules.
use Rattle.std.specs.Prelude.{◌==◌, ◌&&◌, Bool, true, false, Option, Some, None, is_some}
use Rattle.tree_ids.specs.declared.ids.BlockId.{BlockId}
use Rattle.tree_ids.specs.declared.ids.Crate.{Crate}
use Rattle.def_ids.specs.declared.ids.MapId.{MapId}
use Rattle.def_ids.specs.declared.ids.ModuleId.{ModuleId}
use Rattle.def_ids.specs.declared.ids.Def.{Def}
use Rattle.def_ids.specs.declared.ids.Def.TheVariants.{Module}

-- both are no block, or both are one block
abbrev pub is_same_block : Option BlockId → Option BlockId → Bool
is_same_block None None = true
is_same_block None (Some b) = false
is_same_block (Some a) None = false
is_same_block (Some a) (Some b) = a.0 == b.0

-- whether two maps are one
abbrev pub is_same_map : MapId → MapId → Bool
is_same_map a b = (a.krate.0 == b.krate.0) && is_same_block a.block b.block

-- whether two modules are one
abbrev pub is_same_module : ModuleId → ModuleId → Bool
is_same_module a b = is_same_map a.map b.map && (a.index == b.index)

-- the root of a block's map has the index 0
abbrev pub is_block_root : ModuleId → Bool
is_block_root m = (m.index == 0) && is_some m.map.block

-- the root of a crate's map
abbrev pub crate_root : Crate → ModuleId
crate_root krate = record { map = record { krate = krate; block = None }; index = 0 }

-- the module that a definition is
abbrev pub module_of_def : Def → Option ModuleId
module_of_def (Module m) = Some m
module_of_def _ = None
