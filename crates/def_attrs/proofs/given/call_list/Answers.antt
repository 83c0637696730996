use Rattle.std.proofs.Common.{ap, refl, sym, ◌∙◌}
use Rattle.def_attrs.specs.Shown.{with_attrs}
use Rattle.def_calls.specs.Shown.{macro_directive_of, written_attr_of}
use Rattle.def_rules.specs.Attributes.{activated}
use Rattle.def_rules.specs.Derives.{derives_from}
use Rattle.def_rules.specs.Directives.{WalksItem, recorded_told}
use Rattle.def_rules.specs.State.{State}
use Rattle.def_attrs.proofs.given.call_list.Goals as goal

pub returns-clause-told : goal.returns-clause-told
returns-clause-told g c = λ session.
    let before : State = with_attrs session c.args.def_map.now c.args.item_attrs.now in
    let d = macro_directive_of c.args.directive.now in
    let written = written_attr_of c.args.found.written in
    let paths = c.args.paths.now in
    let active = c.in_ok-activate.ensures.active in
    let call = c.attr_call-call.ensures before refl active in
    sym ((λ i. record {
      state = record before { map = c.in_ok-record_list.ensures i; skipped = c.activate.ensures.skipped i; active = active i };
      turn = WalksItem (derives_from written.id c.attr_call-call.result 0 paths) written;
    })
    ∙ ap (λ x. recorded_told (activated before d.position written.id) d written x paths) call)
