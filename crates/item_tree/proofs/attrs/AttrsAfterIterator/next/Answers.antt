use Rattle.std.proofs.Common.{◌≡◌, [], ap, arith, length, subst, sym, ◌∙◌}
use Rattle.std.specs.Iterator.{YieldsFirstBy}
use Rattle.item_tree.proofs.AttrsLemmas.{numbered_next, numbered_past, stays_at_end}
use Rattle.item_tree.proofs.attrs.AttrsAfterIterator.next.Goals as goal

pub returns-clause-steps : goal.returns-clause-steps
returns-clause-steps c =
    let found = c.in_ok-attr.ensures.lookup in
    sym c.self.view_is ∙ numbered_next c.self.inside.next c.self.inside.attrs.now c.in_ok-attr.attr.now found.3.0 found.1

pub returns-clause-goes : goal.returns-clause-goes
returns-clause-goes c = record { on = λ finite. (tt, tt, omega (arith, ap length (returns-clause-steps c))); keeps = tt; rests = λ finite. tt }

pub returns-in_err-attr-clause-steps : goal.returns-in_err-attr-clause-steps
returns-in_err-attr-clause-steps c =
    let left = c.args.self.now in
    let none : left ≡ [] = sym c.self.view_is ∙ numbered_past c.self.inside.next c.self.inside.attrs.now c.in_err-attr.ensures.lookup.3 in
    subst (λ r. YieldsFirstBy (λ x. (x.0, x.1.now)) (λ v. v) left r left) (sym c.from_residual.ensures) (none, none)

pub returns-in_err-attr-clause-goes : goal.returns-in_err-attr-clause-goes
returns-in_err-attr-clause-goes c = stays_at_end _ _ c.args.self.now c.from_residual.result c.from_residual.ensures
