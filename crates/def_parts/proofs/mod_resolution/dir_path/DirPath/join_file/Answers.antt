use Rattle.std.proofs.Common.{ap, ◌∙◌, ◌≡◌, ◌++◌}
use Rattle.std.specs.Prelude.{string_bytes}
use Rattle.def_parts.proofs.DirectoriesLemmas.{joined_file}
use Rattle.def_parts.proofs.mod_resolution.dir_path.DirPath.join_file.Goals as goal

pub returns : goal.returns
returns c =
    let copy : string_bytes c.in_ok-file.file ≡ string_bytes c.self.inside.path = c.in_ok-file.ensures.cases in
    let whole : string_bytes c.push_str-2.new.self ≡ (string_bytes c.self.inside.path ++ c.args.name.now) ++ c.args.end.now =
    c.in_ok-push_str-2.ensures.bytes ∙ ap (λ xs. xs ++ c.args.end.now) (c.in_ok-push_str.ensures.bytes ∙ ap (λ xs. xs ++ c.args.name.now) copy) in
    rw (← c.self.view_is) (joined_file (string_bytes c.self.inside.path) c.args.name.now c.args.end.now (string_bytes c.push_str-2.new.self) c.self.invariant whole)
