use Rattle.std.proofs.Common.{◌≡◌, ◌++◌, [], Some, ap, map, sym, ◌∙◌}
use Rattle.def_calls.specs.Shown.{leaves, macro_directive_of, macros_in, with_inner, with_waiting}
use Rattle.def_rules.specs.Calls.{inner_call, with_inner_calls}
use Rattle.def_rules.specs.Directives.{call_told, given_turn, turn_effect}
use Rattle.def_rules.specs.State.{State}
use Rattle.def_calls.proofs.WaitingLemmas.{first_is}
use Rattle.def_calls.proofs.directives.settle_call.Goals as goal

pub returns-in_default-clause-turned : goal.returns-in_default-clause-turned
returns-in_default-clause-turned c = λ s.
    let first = first_is c.args.directives.now.items c.args.directive c.requires in
    let others = macros_in first.0 in
    let d = macro_directive_of c.args.directive in
    let before : State = with_inner (with_waiting s c.args.def_map.now c.args.directives.now.items c.args.expansions.now.items) c.args.inner_calls.now.items in
    record { others = others; stands = ap macros_in first.1; is = sym (ap (λ a. (turn_effect (call_told before d a).state [] d others (call_told before d a).turn).state) c.in_default.is) }

pub returns-in_default-clause-given : goal.returns-in_default-clause-given
returns-in_default-clause-given c = λ s. sym (ap (λ a. leaves (call_told s (macro_directive_of c.args.directive) a).turn) c.in_default.is)

pub returns-in_default-value-clause-turned : goal.returns-in_default-value-clause-turned
returns-in_default-value-clause-turned c = λ s.
    let first = first_is c.args.directives.now.items c.args.directive c.requires in
    let others = macros_in first.0 in
    let d = macro_directive_of c.args.directive in
    let before : State = with_inner (with_waiting s c.args.def_map.now c.args.directives.now.items c.args.expansions.now.items) c.args.inner_calls.now.items in
    let told : State = with_inner_calls before d.scope c.in-Ok.answer.inner in
    let made : c.queue_inner.new.inner_calls.items ≡ before.inner_calls ++ map (inner_call d.scope) c.in-Ok.answer.inner =
    c.in_ok-queue_inner.ensures ∙ ap (λ calls. before.inner_calls ++ map (inner_call d.scope) calls) c.as_slice.ensures in
    record {
      others = others;
      stands = ap macros_in first.1;
      is = (λ i. record before { inner_calls = made i })
          ∙ sym (ap (λ v. (turn_effect told [] d others (given_turn v)).state) c.in_default-value.is)
          ∙ sym (ap (λ a. (turn_effect (call_told before d a).state [] d others (call_told before d a).turn).state) c.in-Ok.is);
    }

pub returns-in_default-value-clause-given : goal.returns-in_default-value-clause-given
returns-in_default-value-clause-given c = λ s.
    sym (ap (λ v. leaves (given_turn v)) c.in_default-value.is) ∙ sym (ap (λ a. leaves (call_told s (macro_directive_of c.args.directive) a).turn) c.in-Ok.is)

pub returns-clause-turned : goal.returns-clause-turned
returns-clause-turned c = λ s.
    let d = macro_directive_of c.args.directive in
    let call = c.in-Some.call in
    let before : State = with_inner (with_waiting s c.args.def_map.now c.args.directives.now.items c.args.expansions.now.items) c.args.inner_calls.now.items in
    let told : State = with_inner_calls before d.scope c.in-Ok.answer.inner in
    let made : c.queue_inner.new.inner_calls.items ≡ before.inner_calls ++ map (inner_call d.scope) c.in-Ok.answer.inner =
    c.in_ok-queue_inner.ensures ∙ ap (λ calls. before.inner_calls ++ map (inner_call d.scope) calls) c.as_slice.ensures in
    let given = c.in_ok-give_call.ensures (with_inner s c.queue_inner.new.inner_calls.items) in
    record {
      others = given.others;
      stands = given.stands;
      is = given.is
          ∙ (λ i. (turn_effect (record before { inner_calls = made i }) [] d given.others (given_turn (Some call))).state)
          ∙ sym (ap (λ v. (turn_effect told [] d given.others (given_turn v)).state) c.in-Some.is)
          ∙ sym (ap (λ a. (turn_effect (call_told before d a).state [] d given.others (call_told before d a).turn).state) c.in-Ok.is);
    }

pub returns-clause-given : goal.returns-clause-given
returns-clause-given c = λ s.
    sym (ap (λ v. leaves (given_turn v)) c.in-Some.is) ∙ sym (ap (λ a. leaves (call_told s (macro_directive_of c.args.directive) a).turn) c.in-Ok.is)
