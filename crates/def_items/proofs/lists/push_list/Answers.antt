use Rattle.std.proofs.lemmas.Result.{IfOk-from_err}
use Rattle.def_items.proofs.lists.push_list.Goals as goal

pub returns : goal.returns
returns c = record {
  begun = record { frame = c.in_ok-frame.frame; pushed = c.in_ok-push.ensures.items; same = c.in_ok-frame.ensures.list; left = c.in_ok-frame.ensures.left };
  entered = c.in_ok-frame.ensures.entered;
}

pub returns-in_err-frame : goal.returns-in_err-frame
returns-in_err-frame c = record { begun = IfOk-from_err _ _ c.from_residual.ensures.0; entered = IfOk-from_err _ _ c.from_residual.ensures.0 }

pub returns-in_err-push : goal.returns-in_err-push
returns-in_err-push c = record { begun = IfOk-from_err _ _ c.from_residual-in_err-push.ensures.0; entered = IfOk-from_err _ _ c.from_residual-in_err-push.ensures.0 }
