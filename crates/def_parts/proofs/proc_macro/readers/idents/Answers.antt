use Rattle.std.proofs.Common.{◌++◌, ap, append-nil, sym, ◌∙◌}
use Rattle.std.specs.List.{filter_map}
use Rattle.std.proofs.lemmas.Result.{IfOk-from_err}
use Rattle.item_tree.specs.TokenTrees.{element_ident, idents}
use Rattle.def_parts.proofs.proc_macro.readers.idents.Goals as goal

pub loop-element-init : goal.loop-element-init
loop-element-init c = ap (λ l. l ++ idents c.args.trees) c.new-names.ensures.items

pub returns : goal.returns
returns c = sym (append-nil c.loop-element.names.items) ∙ ap (λ l. c.loop-element.names.items ++ filter_map element_ident l) (sym c.in_default.ensures.steps.0) ∙ c.loop-element.invariant

pub returns-in_err-push : goal.returns-in_err-push
returns-in_err-push c = IfOk-from_err _ _ c.from_residual.ensures.0
