-- What a run over a scripted crate is given.
use Rattle.std.specs.Prelude.{None}
use Rattle.tree_ids.specs.declared.ids.FileId.{FileId}
use Rattle.tree_ids.specs.declared.ids.HirFileId.TheVariants.{File}
use Rattle.tree_ids.specs.declared.ids.TreeId.{TreeId}
use Rattle.def_map.specs.DefMaps.{seeded}
use Rattle.def_map.specs.Oracle.{Oracle}
use Rattle.def_rules.specs.State.{Setting}
use Rattle.def_scripted.specs.declared.fixture.CrateText.{CrateText}

-- the tree of a file
abbrev pub file_tree : FileId → TreeId
file_tree file = record { file = File file; block = None }

-- a run over a crate, from a fresh map and its root file
abbrev pub setting : Oracle → CrateText → Setting
setting oracle text =
    record {
      oracle = oracle;
      seeded = seeded (record { 0 = text.krate }) text.edition None;
      tree = file_tree (record { 0 = text.root_file });
      crate_local = None;
    }
