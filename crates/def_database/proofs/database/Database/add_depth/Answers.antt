use Rattle.std.proofs.Common.{◌≡◌, ap, subst, Bool, cond, Some}
use Rattle.std.specs.Prelude.{unwrap_or}
use Rattle.indexmap.specs.IndexMap.{get}
use Rattle.tree_ids.specs.declared.ids.HirFileId.{HirFileId}
use Rattle.def_modules.specs.Equality.{file_eq}
use Rattle.def_database.specs.Database.{answers_of}
use Rattle.def_database.proofs.FillingLemmas.{files_same, read-set}
use Rattle.def_database.proofs.database.Database.add_depth.Goals as goal

pub returns-clause-ok : goal.returns-clause-ok
returns-clause-ok c =
    let old = c.args.self.now.files.depths in
    let P : (HirFileId → HirFileId → Bool) → Type 0 = λ e. (q : HirFileId) → get e c.insert.new.self q ≡ cond (e c.args.file q) (Some c.args.depth) (get e old q) in
    let written = subst P files_same c.in_ok-insert.ensures.updates.0 in
    ap (λ f. record (answers_of c.args.self.now) { expansion_depth = f }) (read-set file_eq (λ o. unwrap_or o 0) old c.insert.new.self c.args.file c.args.depth written)
