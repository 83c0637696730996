use Rattle.std.proofs.Common.{◌++◌, append-nil, ap, refl, sym, slice_get, ◌∙◌}
use Rattle.def_calls.specs.Shown.{kind_of, macro_directive_of}
use Rattle.macro_calls.specs.Written.{written_of}
use Rattle.def_collector.specs.Collector.{state_of}
use Rattle.def_laws.proofs.RecordLaws.{on_ok}
use Rattle.def_map.specs.Asking.{world_lent}
use Rattle.def_sources.specs.Tables.{bound_by}
use Rattle.def_rules.specs.Report.{kind_report, macro_report}
use Rattle.def_rules.specs.State.{State}
use Rattle.def_calls.proofs.WaitingLemmas.{read_at}
use Rattle.def_collector.proofs.MacroPassLemmas.{call_report, one_at}
use Rattle.def_collector.proofs.run.report_macro.Goals as goal

pub returns-in-Attr-clause-told : goal.returns-in-Attr-clause-told
returns-in-Attr-clause-told g c = λ x here.
    let oracle = g.D.SourceDatabase.oracle c.args.db.now in
    let all = c.args.collector.now.unresolved_macros.items in
    let said = c.args.collector.now.diagnostics.items in
    let s : State = state_of c.args.collector.now c.args.session.now in
    let shown = c.index.result.now in
    let same = one_at (slice_get all c.args.i) shown x (read_at all c.args.i shown shown c.requires c.index.ensures refl) here in
    sym (append-nil said) ∙ ap (λ l. said ++ l) (sym (ap (λ k. kind_report oracle s (macro_directive_of shown) (kind_of k)) c.in-Attr.is)) ∙ ap (λ y. said ++ macro_report oracle s (macro_directive_of y)) same

pub returns-in_ok-answer-in-FnLike-clause-told : goal.returns-in_ok-answer-in-FnLike-clause-told
returns-in_ok-answer-in-FnLike-clause-told g c =
    let oracle = g.D.SourceDatabase.oracle c.args.db.now in
    let all = c.args.collector.now.unresolved_macros.items in
    let said = c.args.collector.now.diagnostics.items in
    let s : State = state_of c.args.collector.now c.args.session.now in
    let shown = c.index.result.now in
    let d = macro_directive_of shown in
    let kind = ap kind_of c.in-FnLike.is in
    on_ok c.report_left_call.result c.report_left_call.ensures (λ told x here.
    let same = one_at (slice_get all c.args.i) shown x (read_at all c.args.i shown shown c.requires c.index.ensures refl) here in
    told (written_of c.in-FnLike.written) kind
    ∙ ap (λ l. said ++ l) (call_report oracle s (world_lent g.D.SourceDatabase.oracle bound_by c.world-world.result) d (written_of c.in-FnLike.written) c.in_ok-answer-in-FnLike.answer kind c.world-world.ensures c.in_ok-answer-in-FnLike.ensures)
    ∙ ap (λ y. said ++ macro_report oracle s (macro_directive_of y)) same)

pub returns-in-Derive-clause-told : goal.returns-in-Derive-clause-told
returns-in-Derive-clause-told g c =
    let oracle = g.D.SourceDatabase.oracle c.args.db.now in
    let all = c.args.collector.now.unresolved_macros.items in
    let said = c.args.collector.now.diagnostics.items in
    let s : State = state_of c.args.collector.now c.args.session.now in
    let shown = c.index.result.now in
    let d = macro_directive_of shown in
    let kind = ap kind_of c.in-Derive.is in
    on_ok c.report_left_derive.result c.report_left_derive.ensures (λ told x here.
    let same = one_at (slice_get all c.args.i) shown x (read_at all c.args.i shown shown c.requires c.index.ensures refl) here in
    told kind ∙ ap (λ k. said ++ kind_report oracle s d k) (sym kind) ∙ ap (λ y. said ++ macro_report oracle s (macro_directive_of y)) same)
