use Rattle.std.proofs.lemmas.Result.{IfOk-from_err}
use Rattle.def_parts.proofs.DirectoriesLemmas.{one_candidate, two_candidates}
use Rattle.def_parts.proofs.mod_resolution.ModDir.candidate_files.Goals as goal

pub returns : goal.returns
returns c =
    rw (c.in_default.is, ← c.self.view_is)
    (two_candidates (record { pieces = c.self.inside.dir_path; root_non_dir_owner = c.self.inside.root_non_dir_owner; depth = c.self.inside.depth }) c.args.name.now
    c.in_ok-join_file.field-0 c.in_ok-join_file-2.field-0 _ _ _ c.new_in-files.ensures c.push-2.ensures.items c.push-3.ensures.items c.in_ok-join_file.ensures c.in_ok-join_file-2.ensures)

pub returns-in-Some : goal.returns-in-Some
returns-in-Some c =
    rw (c.in-Some.is, ← c.self.view_is)
    (one_candidate (record { pieces = c.self.inside.dir_path; root_non_dir_owner = c.self.inside.root_non_dir_owner; depth = c.self.inside.depth }) c.args.name.now c.in-Some.attr.now
    c.in_ok-join_attr.field-0 _ _ c.new_in-files.ensures c.push.ensures.items c.in_ok-join_attr.ensures)

pub returns-in_err-join_attr : goal.returns-in_err-join_attr
returns-in_err-join_attr c = IfOk-from_err _ _ c.from_residual.ensures.0

pub returns-in_err-join_file : goal.returns-in_err-join_file
returns-in_err-join_file c = IfOk-from_err _ _ c.from_residual-in_err-join_file.ensures.0

pub returns-in_err-join_file-2 : goal.returns-in_err-join_file-2
returns-in_err-join_file-2 c = IfOk-from_err _ _ c.from_residual-in_err-join_file-2.ensures.0
