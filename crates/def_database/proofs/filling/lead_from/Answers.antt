use Rattle.std.proofs.Common.{rules, ap, ◌∙◌, Some}
use Rattle.std.specs.Prelude.{bytes_eq, unwrap_or}
use Rattle.indexmap.specs.IndexMap.{get, get_by_text}
use Rattle.def_modules.specs.Updates.{set_where}
use Rattle.def_database.specs.Database.{file_id_eq}
use Rattle.def_database.proofs.FillingLemmas.{kept, led, refused}
use Rattle.def_database.proofs.filling.lead_from.Goals as goal

pub returns-clause-ok : goal.returns-clause-ok
returns-clause-ok c =
    let found = c.or_insert-of_file.ensures.value ∙ ap (λ o. unwrap_or o c.new.result) c.in_ok-paths.ensures.value in
    let added = c.in_ok-lead.ensures.ok ∙ ap (λ m. set_where (bytes_eq c.args.path.now) (Some c.args.to) (get_by_text m)) found in
    led c.args.from c.args.path.now c.args.to (get file_id_eq c.args.paths.now) _ c.new.result c.lead.new.paths (λ q. search rules) c.new.ensures.empty added

pub returns-in_err-lead-clause-err : goal.returns-in_err-lead-clause-err
returns-in_err-lead-clause-err c =
    let found = c.or_insert-of_file.ensures.value ∙ ap (λ o. unwrap_or o c.new.result) c.in_ok-paths.ensures.value in
    let same = c.in_err-lead.ensures.err ∙ ap get_by_text found in
    refused c.from_residual-in_err-lead.result (kept c.args.from (get file_id_eq c.args.paths.now) _ c.new.result c.lead.new.paths (λ q. search rules) c.new.ensures.empty same)
