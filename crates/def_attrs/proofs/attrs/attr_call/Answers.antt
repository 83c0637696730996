use Rattle.std.proofs.Common.{ap, sym, ◌∙◌}
use Rattle.def_calls.specs.Shown.{macro_directive_of, written_attr_of}
use Rattle.def_attrs.proofs.AttrsLemmas.{active-there}
use Rattle.def_attrs.proofs.attrs.attr_call.Goals as goal

pub returns : goal.returns
returns g c = λ s same active.
    let d = macro_directive_of c.args.directive.now in
    let written = written_attr_of c.args.written in
    let censored = c.active.ensures ∙ ap (λ f. f d.position) active ∙ active-there s.active d.position written.id in
    c.make_attr_call.ensures
    ∙ (λ i. (g.D.SourceDatabase.oracle c.args.db.now).make_attr_call (record {
      krate = (sym same) i;
      macro_def = c.args.found;
      position = d.position;
      attr_id = written.id;
      input = c.as_ref.ensures.value i;
      ctxt = written.attr.ctxt;
      censored = censored i;
      depth = d.depth;
    }))
