use Rattle.std.proofs.Common.{◌++◌, ◌∷◌, [], ap, ◌∙◌}
use Rattle.item_tree.specs.declared.mod_path.ModPath.{ModPath}
use Rattle.macro_calls.proofs.PathLemmas.{cloned_path}
use Rattle.def_rules.specs.declared.diagnostics.DefDiagnostic.{DefDiagnostic}
use Rattle.def_rules.specs.declared.diagnostics.DefDiagnosticKind.TheVariants.{UnresolvedMacroCall}
use Rattle.def_rules.specs.declared.outcome.LeftMacroKind.TheVariants.{Attr}
use Rattle.def_calls.proofs.fallback.report_attr.Goals as goal

pub returns : goal.returns
returns c =
    let d = c.args.directive.now in
    let shown : ModPath → DefDiagnostic = λ path. record { «module» = d.module_id; ast_id = d.position; kind = UnresolvedMacroCall (Attr c.args.written.attr_id) path } in
    c.in_ok-push.ensures.items ∙ ap (λ path. c.args.diagnostics.now.items ++ shown path ∷ []) (cloned_path c.args.written.attr.now.path _ c.in_ok-clone.ensures.cases)
