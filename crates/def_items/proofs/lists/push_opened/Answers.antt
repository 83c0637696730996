use Rattle.std.proofs.Common.{subst}
use Rattle.std.proofs.lemmas.Result.{IfOk-from_err}
use Rattle.def_items.specs.Lists.{IsBegun}
use Rattle.def_items.proofs.lists.push_opened.Goals as goal

pub returns : goal.returns
returns c = record {
  begun = subst (λ below. IsBegun below c.args.list c.push_list.new.frames.items) c.in_ok-push.ensures.items c.in_ok-push_list.ensures.begun;
  entered = c.in_ok-push_list.ensures.entered;
}

pub returns-in_err-push : goal.returns-in_err-push
returns-in_err-push c = record { begun = IfOk-from_err _ _ c.from_residual.ensures.0; entered = IfOk-from_err _ _ c.from_residual.ensures.0 }

pub returns-in_err-push_list : goal.returns-in_err-push_list
returns-in_err-push_list c = record { begun = IfOk-from_err _ _ c.from_residual-in_err-push_list.ensures.0; entered = IfOk-from_err _ _ c.from_residual-in_err-push_list.ensures.0 }
