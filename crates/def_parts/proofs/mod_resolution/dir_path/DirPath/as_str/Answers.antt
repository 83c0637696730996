use Rattle.std.proofs.Common.{sym, ap, ◌∙◌}
use Rattle.std.specs.Prelude.{string_bytes}
use Rattle.def_readings.specs.Directories.{dir_text}
use Rattle.def_parts.specs.DirectoriesLaws.{dir_text-dir_pieces}
use Rattle.def_parts.proofs.mod_resolution.dir_path.DirPath.as_str.Goals as goal

pub returns-clause-text : goal.returns-clause-text
returns-clause-text c =
    c.as_str.ensures.value ∙ sym (dir_text-dir_pieces (string_bytes c.self.inside.path) c.self.invariant) ∙ ap dir_text c.self.view_is
