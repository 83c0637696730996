use Rattle.std.proofs.Common.{◌++◌, ◌∷◌, [], ◌∙◌, ap, subst}
use Rattle.def_parts.specs.Directories.{files_of, resolve_declaration}
use Rattle.def_parts.specs.Sites.{site_of}
use Rattle.def_collector.specs.Walk.{with_reports}
use Rattle.def_rules.specs.Items.{diagnostic}
use Rattle.def_rules.specs.Modules.{name_text}
use Rattle.def_rules.specs.State.{State}
use Rattle.def_laws.proofs.ModulesLaws.{asked_files, file_missing, IsPushed}
use Rattle.def_collector.proofs.modules.collect_outline_module.Goals as goal

pub returns-in_ok-push_module-in-Err-clause-done : goal.returns-in_ok-push_module-in-Err-clause-done
returns-in_ok-push_module-in-Err-clause-done g c = λ s named.
    let oracle = g.D.SourceDatabase.oracle c.args.db.now in
    let before : State = with_reports s c.args.def_map.now c.args.table.now c.args.diagnostics.now in
    let told : State = with_reports s c.args.def_map.now c.args.table.now c.report.new.diagnostics in
    let after : State = with_reports s c.push_module.new.def_map c.push_module.new.table c.report.new.diagnostics in
    let site = site_of c.args.item.site.now in
    file_missing oracle before after site c.args.item.node.now c.args.item.name c.args.item.vis
    (resolve_declaration (files_of oracle) site.tree.file site.directory (name_text s.session c.args.item.name) _)
    _ told
    (asked_files (files_of oracle) site.tree.file site.directory _ _ _ _ c.in_ok-file.field-0 c.in-Err.candidates named c.path_attr-attr.ensures c.in-Err.is c.in_ok-file.ensures)
    (ap (λ d. record before { diagnostics = d }) (c.in_ok-report-in-Err.ensures ∙ ap (λ kind. before.diagnostics ++ diagnostic site c.args.item.node.now kind ∷ []) c.in_ok-kind-in-Err.ensures))
    (subst (IsPushed told after site c.args.item.name c.args.item.vis) c.inline_origin.ensures (c.in_ok-push_module-in-Err.ensures.added told))
