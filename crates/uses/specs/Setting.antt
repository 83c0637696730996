-- What a run over a crate is given.
use Rattle.std.specs.Prelude.{None}
use Rattle.tree_ids.specs.declared.ids.Crate.{Crate}
use Rattle.tree_ids.specs.declared.ids.FileId.{FileId}
use Rattle.tree_ids.specs.declared.ids.HirFileId.TheVariants.{File}
use Rattle.tree_ids.specs.declared.ids.TreeId.{TreeId}
use Rattle.def_ids.specs.declared.edition.Edition.TheVariants.{Edition2021}
use Rattle.def_map.specs.DefMaps.{seeded}
use Rattle.def_map.specs.Oracle.{Oracle}
use Rattle.def_rules.specs.State.{Setting}

-- the tree of a whole file
abbrev pub file_tree : FileId → TreeId
file_tree file = record { file = File file; block = None }

-- a run over a crate of edition 2021, from a fresh map and the crate's root file
abbrev pub setting : Oracle → Crate → FileId → Setting
setting oracle krate root_file = record { oracle = oracle; seeded = seeded krate Edition2021 None; tree = file_tree root_file; crate_local = None }
