use Rattle.std.proofs.Common.{◌≡◌, subst, Some}
use Rattle.std.specs.Prelude.{bytes_eq}
use Rattle.std.specs.String.{string_bytes}
use Rattle.std.proofs.lemmas.Map.Text.{hash_map_updates_text}
use Rattle.indexmap.specs.IndexMap.{get_by_text}
use Rattle.def_modules.specs.Updates.{set_where}
use Rattle.def_database.proofs.filling.lead.Goals as goal

pub returns-clause-ok : goal.returns-clause-ok
returns-clause-ok c =
    let old = c.args.paths.now in
    let new = c.insert.new.self in
    let e = hash_map_updates_text (string_bytes c.in_ok-path.path) old new (Some c.args.to) c.in_ok-insert.ensures.updates in
    subst (λ bytes. get_by_text new ≡ set_where (bytes_eq bytes) (Some c.args.to) (get_by_text old)) c.in_ok-path.ensures.ok (λ i text. e text i)
