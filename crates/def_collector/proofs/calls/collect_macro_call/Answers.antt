use Rattle.std.proofs.Common.{◌≡◌, Err, Ok, Result, ap, subst, sym, ◌∙◌}
use Rattle.macro_calls.specs.Written.{written_of}
use Rattle.def_collector.specs.Collector.{state_of}
use Rattle.def_collector.specs.Walk.{inner_of}
use Rattle.def_laws.proofs.ResultLaws.{if_ok}
use Rattle.def_parts.specs.Sites.{site_of}
use Rattle.def_laws.specs.Performs.{IsDone}
use Rattle.def_laws.proofs.CallsLaws.{left_done}
use Rattle.def_map.specs.Queries.{plain_call}
use Rattle.def_oracle.specs.declared.source_database.CallAnswer.{CallAnswer}
use Rattle.def_oracle.specs.declared.source_database.UnresolvedMacro.{UnresolvedMacro}
use Rattle.def_rules.specs.Calls.{answer_by, answered_effect, call_query, deeper, early_meaning}
use Rattle.def_rules.specs.Items.{position_of}
use Rattle.def_rules.specs.State.{State, only, world}
use Rattle.def_collector.proofs.calls.collect_macro_call.Goals as goal

pub returns-in-Ok-clause-done : goal.returns-in-Ok-clause-done
returns-in-Ok-clause-done g c =
    let oracle = g.D.SourceDatabase.oracle c.args.db.now in
    let before : State = state_of c.args.collector.now c.args.session.now in
    let site = site_of c.args.site.now in
    let written = written_of c.args.written in
    let meaning = early_meaning (world oracle before) site.scope in
    let asked : Ok c.in-Ok.answer ≡ answer_by oracle meaning (call_query before.map (position_of site c.args.node.now) (deeper site.depth) written) =
    sym c.in-Ok.is ∙ c.in_ok-answer.ensures ∙ ap (λ w. answer_by w.oracle (early_meaning w c.args.site.now.module_id) (plain_call c.call_query-query.result)) c.world-world.ensures
    ∙ ap (answer_by oracle meaning) (c.call_query-query.ensures ∙ (λ i. call_query before.map (c.position-position.ensures i) (c.deeper.ensures i) written)) in
    if_ok c.collect_answer.result c.collect_answer.ensures.done (λ opened done.
    subst (λ (r : Result CallAnswer UnresolvedMacro). IsDone oracle (answered_effect oracle before site c.args.node.now written r) (state_of c.collect_answer.new.collector c.args.session.now) (inner_of oracle opened)) asked (done c.args.session.now))

pub returns-clause-done : goal.returns-clause-done
returns-clause-done g c =
    let oracle = g.D.SourceDatabase.oracle c.args.db.now in
    let before : State = state_of c.args.collector.now c.args.session.now in
    let site = site_of c.args.site.now in
    let written = written_of c.args.written in
    let meaning = early_meaning (world oracle before) site.scope in
    let asked : Err c.in-Err.field-0 ≡ answer_by oracle meaning (call_query before.map (position_of site c.args.node.now) (deeper site.depth) written) =
    sym c.in-Err.is ∙ c.in_ok-answer.ensures ∙ ap (λ w. answer_by w.oracle (early_meaning w c.args.site.now.module_id) (plain_call c.call_query-query.result)) c.world-world.ensures
    ∙ ap (answer_by oracle meaning) (c.call_query-query.ensures ∙ (λ i. call_query before.map (c.position-position.ensures i) (c.deeper.ensures i) written)) in
    left_done oracle _ _ _
    (ap (answered_effect oracle before site c.args.node.now written) (sym asked) ∙ (λ i. only (record before { macros = (sym c.in_ok-queue_macro-in-Err.ensures) i })))
