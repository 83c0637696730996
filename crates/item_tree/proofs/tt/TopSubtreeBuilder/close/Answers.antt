use Rattle.std.proofs.Common.{ap, arith, refl, rules}
use Rattle.item_tree.specs.TokenTrees.{depth}
use Rattle.item_tree.proofs.TokenTreesLemmas.{none_is_open, some_are_open}
use Rattle.item_tree.proofs.tt.TopSubtreeBuilder.close.Goals as goal

pub returns-then-self-eq0-clause-found : goal.returns-then-self-eq0-clause-found
returns-then-self-eq0-clause-found c =
    let none = none_is_open _ _ c.self.invariant c.if-self-eq0.true in
    let view = ap depth c.self.view_is in
    (λ wrong. cc, λ some. absurd (omega (arith, some, none, view)))

pub returns-clause-found : goal.returns-clause-found
returns-clause-found c =
    let some = some_are_open _ _ c.self.invariant (omega (arith, c.if-self-eq0.false)) in
    (λ _. rw (← c.self.view_is) some, λ _. refl)

pub returns-then-self-eq0-clause-text : goal.returns-then-self-eq0-clause-text
returns-then-self-eq0-clause-text c = search rules
