use Rattle.std.proofs.Common.{◌∙◌}
use Rattle.std.specs.Prelude.{string_bytes}
use Rattle.def_readings.specs.Directories.{clean, base_of}
use Rattle.def_parts.proofs.DirectoriesLemmas.{closed_end}
use Rattle.def_parts.proofs.mod_resolution.ModDir.path_below.Goals as goal

pub returns : goal.returns
returns c =
    let whole = closed_end (base_of c.self.inside.dir_path c.self.inside.root_non_dir_owner) (clean c.in-Some.attr.now) (string_bytes c.in_ok-path.path) c.in_ok-path.ensures in
    rw (c.in-Some.is, ← c.self.view_is) (c.in_ok-dir.ensures ∙ whole)
