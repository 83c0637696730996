use Rattle.std.proofs.Common.{◌≡◌, None, ap, sym, ◌∙◌}
use Rattle.macro_calls.specs.Written.{written_of}
use Rattle.def_collector.specs.Collector.{state_of}
use Rattle.def_collector.specs.Walk.{inner_of}
use Rattle.def_laws.proofs.ResultLaws.{if_ok}
use Rattle.def_parts.specs.Sites.{site_of}
use Rattle.def_modules.specs.Maps.{map_state, with_module}
use Rattle.def_modules.specs.Scopes.{with_invocation}
use Rattle.def_rules.specs.Calls.{expansion_effect, invoking}
use Rattle.def_rules.specs.Items.{position_of}
use Rattle.def_rules.specs.State.{State}
use Rattle.def_collector.proofs.CallLemmas.{answered_nothing, answered_opens, answered_waits}
use Rattle.def_collector.proofs.calls.collect_answer.Goals as goal

pub returns-in-Some-clause-done : goal.returns-in-Some-clause-done
returns-in-Some-clause-done g c = λ session.
    let before : State = state_of c.args.collector.now session in
    let at = c.args.site.now.module_id.index in
    let made : map_state c.record_calls.new.def_map ≡ invoking at c.args.answer.now.inner before.map =
    c.in_ok-record_calls.ensures ∙ ap (λ calls. invoking at calls before.map) c.as_slice.ensures in
    answered_waits (g.D.SourceDatabase.oracle c.args.db.now) before _ (site_of c.args.site.now) c.args.node.now (written_of c.args.written) c.args.answer.now c.in-Some.field-0 c.in-Some.is
    (λ i. record before { map = made i; macros = c.in_ok-queue_macro.ensures i })

pub returns-in_default-value-clause-done : goal.returns-in_default-value-clause-done
returns-in_default-value-clause-done g c = λ session.
    let before : State = state_of c.args.collector.now session in
    let at = c.args.site.now.module_id.index in
    let made : map_state c.record_calls.new.def_map ≡ invoking at c.args.answer.now.inner before.map =
    c.in_ok-record_calls.ensures ∙ ap (λ calls. invoking at calls before.map) c.as_slice.ensures in
    answered_nothing (g.D.SourceDatabase.oracle c.args.db.now) before _ (site_of c.args.site.now) c.args.node.now (written_of c.args.written) c.args.answer.now c.in_default.is c.in_default-value.is
    (λ i. record before { map = made i })

pub returns-clause-done : goal.returns-clause-done
returns-clause-done g c = if_ok c.open_expansion.result c.open_expansion.ensures.opened (λ opened done session.
    let before : State = state_of c.args.collector.now session in
    let oracle = g.D.SourceDatabase.oracle c.args.db.now in
    let at = c.args.site.now.module_id.index in
    let item = position_of (site_of c.args.site.now) c.args.node.now in
    let call = c.in-Some-value.call in
    let made : map_state c.record_calls.new.def_map ≡ invoking at c.args.answer.now.inner before.map =
    c.in_ok-record_calls.ensures ∙ ap (λ calls. invoking at calls before.map) c.as_slice.ensures in
    let called : map_state c.add_macro_invoc.new.self ≡ with_module (invoking at c.args.answer.now.inner before.map) at (with_invocation item call) =
    c.in_ok-add_macro_invoc.ensures
    ∙ ap (λ p. with_module (map_state c.record_calls.new.def_map) at (with_invocation p call)) c.position-position.ensures
    ∙ ap (λ m. with_module m at (with_invocation item call)) made in
    answered_opens oracle before _ (site_of c.args.site.now) c.args.node.now (written_of c.args.written) c.args.answer.now call (inner_of oracle opened) _ c.in_default.is c.in-Some-value.is
    (λ i. record before { map = called i })
    (ap (λ depth. expansion_effect oracle (record before { map = map_state c.add_macro_invoc.new.self }) (record { scope = c.args.site.now.module_id; container = c.args.site.now.container; depth = depth; call = call; replaces = None })) (sym c.deeper.ensures) ∙ done session))
