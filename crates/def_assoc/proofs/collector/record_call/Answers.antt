use Rattle.std.proofs.Common.{◌≡◌, ◌∷◌, [], ◌++◌, ap, sym, ◌∙◌}
use Rattle.item_tree.specs.declared.items.ExpandTo.TheVariants.{Items}
use Rattle.def_paths.specs.Paths.{resolver}
use Rattle.def_rules.specs.Calls.{answer_by, call_query}
use Rattle.def_rules.specs.declared.diagnostics.DefDiagnosticKind.TheVariants.{UnresolvedMacroCall}
use Rattle.def_rules.specs.declared.outcome.LeftMacroKind.TheVariants.{Fn}
use Rattle.def_sources.specs.declared.asked.BuiltinShadowMode.TheVariants as shadow
use Rattle.def_sources.specs.declared.per_ns.MacroSubNs.TheVariants as sub
use Rattle.macro_calls.proofs.PathLemmas.{cloned_path}
use Rattle.def_assoc.specs.ExpansionTrees.{call_answer, diagnostic}
use Rattle.def_assoc.specs.Shown.{found_of, node_of, reading_of}
use Rattle.def_assoc.proofs.WalkLemmas.{failed, reported_only}
use Rattle.def_assoc.proofs.collector.record_call.Goals as goal

pub returns : goal.returns
returns g c =
    let r = reading_of g.D.SourceDatabase.oracle c.args.world.now c.args.module_id in
    let node = node_of c.args.node in
    let asked : c.in_ok-answer.field-0 ≡ call_answer r node c.args.path.now c.args.ctxt =
    c.in_ok-answer.ensures
    ∙ ap (answer_by r.world.oracle (resolver r.world shadow.Other sub.Bang r.scope))
    (c.call_query-query.ensures ∙ (λ i. call_query r.map (c.position-position.ensures i) (c.deeper.ensures i) (record { path = c.args.path.now; expand_to = Items; ctxt = c.args.ctxt }))) in
    let told = failed r node c.args.path.now (call_answer r node c.args.path.now c.args.ctxt) c.in-Err.field-0 (sym asked ∙ c.in-Err.is) in (
      sym (ap (λ given. given.expands) told),
      reported_only (found_of c.args.found.now) _ c.report.new.diagnostics _ told
          (c.in_ok-report-in-Err.ensures
          ∙ (λ i. c.args.found.now.diagnostics ++ diagnostic c.args.module_id (c.position-position.ensures i) (UnresolvedMacroCall Fn (cloned_path c.args.path.now _ c.in_ok-clone-in-Err.ensures.cases i)) ∷ [])),
    )
