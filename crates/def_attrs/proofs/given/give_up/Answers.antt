use Rattle.std.proofs.Common.{Result, Ok, Err}
use Rattle.std.specs.Result.{OnOk}
use Rattle.def_attrs.specs.Shown.{with_items}
use Rattle.def_rules.specs.State.{State}
use Rattle.def_attrs.proofs.given.give_up.Goals as goal

-- what follows from a value's fact
on_ok : {T E P Q : Type 0} (r : Result T E) → OnOk r P → (P → Q) → OnOk r Q
on_ok (Ok x) p f = f p
on_ok (Err e) p f = p

pub returns : goal.returns
returns c = on_ok c.pass_over.result c.pass_over.ensures.skipped (λ skipped s.
    let before : State = with_items s c.args.diagnostics.now.items c.args.directives.now.items c.args.item_attrs.now in
    let left = c.take_out.ensures in
    record {
      before = left.before;
      behind = left.behind;
      stands = left.stands;
      is = λ i. record before { diagnostics = c.in_ok-report_attr.ensures i; macros = left.left i; skipped = skipped i; active = c.pass_over.ensures.active i };
    })
