use Rattle.std.proofs.Common.{[], refl, ◌∙◌}
use Rattle.def_calls.specs.Shown.{macro_directive_of}
use Rattle.def_collector.specs.Collector.{state_of}
use Rattle.def_rules.specs.Directives.{GivesCall, turn_effect}
use Rattle.def_rules.specs.State.{State}
use Rattle.def_collector.proofs.macro_pass.replace_item.Goals as goal

pub returns-clause-turned : goal.returns-clause-turned
returns-clause-turned g c = λ session.
    let s : State = state_of c.args.collector.now session in
    let d = macro_directive_of c.args.directive in
    let freed = c.in_ok-expand_deferred.ensures in
    let turned = c.in_ok-give_call.ensures (state_of (record c.args.collector.now { deferred_builtin_derives = c.expand_deferred.new.deferred; item_attrs = c.activate.new.self }) session) in
    let call = c.attr_call-call.ensures s refl c.in_ok-activate.ensures.active in
    record {
      others = turned.others;
      stands = turned.stands;
      is = turned.is
          ∙ (λ i. (turn_effect (record s { skipped = c.activate.ensures.skipped i; active = c.in_ok-activate.ensures.active i; deferred = freed.1 i; expansions = freed.0 i }) [] d turned.others (GivesCall (call i))).state);
    }
