use Rattle.std.proofs.Common.{sym, ap, ◌∙◌, ◌≡◌, ◌++◌, ◌∷◌, [], subst}
use Rattle.std.specs.Prelude.{string_bytes}
use Rattle.def_readings.specs.Directories.{dir_pieces}
use Rattle.def_parts.specs.DirectoriesLaws.{IsDirText, closed_pieces}
use Rattle.def_parts.proofs.mod_resolution.dir_path.DirPath.closed.Goals as goal
use Rattle.def_parts.proofs.mod_resolution.dir_path.DirPath.closed.Goals.{then-not-is_dir_text+in_ok-push_str, else-not-is_dir_text}

pub returns : goal.returns
returns c =
    elim c.if-not-is_dir_text.branch [
      | then-not-is_dir_text+in_ok-push_str w ↦
          let whole : string_bytes c.if-not-is_dir_text.path ≡ string_bytes c.args.path ++ 47 ∷ [] = ap string_bytes w.path-is ∙ w.in_ok-push_str.ensures.bytes in
          ap dir_pieces whole ∙ closed_pieces (string_bytes c.args.path) (λ is. w.if-not-is_dir_text.ensures (subst IsDirText (sym c.as_str.ensures.value) is))
      | else-not-is_dir_text w ↦ ap (λ s. dir_pieces (string_bytes s)) w.path-is
    ]
