use Rattle.std.proofs.Common.{ap, option_map, refl, sym, ◌∙◌}
use Rattle.def_collector.specs.Collector.{state_of}
use Rattle.def_collector.proofs.stack.queue_awaited.Goals as goal

pub returns-in_default-clause-same : goal.returns-in_default-clause-same
returns-in_default-clause-same g c = λ was. (refl, λ session. sym (c.awaited_attr-awaited.ensures (state_of c.args.collector.now session)) ∙ ap (option_map (λ a. (a.0, a.1.now))) c.in_default.is)

pub returns-clause-waits : goal.returns-clause-waits
returns-clause-waits g c = λ was session.
    let s = state_of c.args.collector.now session in
    record {
      attr = (c.in-Some.attr_id, c.in-Some.attr.now);
      awaited = sym (c.awaited_attr-awaited.ensures s) ∙ ap (option_map (λ a. (a.0, a.1.now))) c.in-Some.is;
      waits = λ i. record s { macros = c.in_ok-queue_macro.ensures i };
    }
