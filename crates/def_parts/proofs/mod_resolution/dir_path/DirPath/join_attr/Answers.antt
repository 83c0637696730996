use Rattle.std.proofs.Common.{ap, ◌∙◌, ◌≡◌, ◌++◌}
use Rattle.std.specs.Prelude.{string_bytes, map}
use Rattle.def_readings.specs.Directories.{clean, as_slash, pieces_of}
use Rattle.def_parts.proofs.DirectoriesLemmas.{joined_attr}
use Rattle.def_parts.proofs.mod_resolution.dir_path.DirPath.join_attr.Goals as goal

pub returns : goal.returns
returns c =
    let whole : string_bytes c.push_slashed.new.path ≡ c.base.result.now ++ clean c.args.attr.now =
    c.in_ok-push_slashed.ensures ∙ ap (λ xs. xs ++ map as_slash c.skip_dot.result.now) c.in_ok-path.ensures.ok ∙ ap (λ text. c.base.result.now ++ map as_slash text) c.skip_dot.ensures in
    joined_attr c.base.result.now (clean c.args.attr.now) (string_bytes c.push_slashed.new.path) c.base.ensures.closed whole
    ∙ ap (λ ps. ps ++ pieces_of (clean c.args.attr.now)) c.base.ensures.pieces
