use Rattle.std.proofs.Common.{arith, ap, ◌∙◌, map}
use Rattle.item_tree.specs.TokenTrees.{depth}
use Rattle.item_tree.specs.FlatTrees.{IsFlat, piece_of}
use Rattle.item_tree.proofs.TokenTreesLemmas.{none_is_open, some_are_open, whole_is_flat, text_of_flat}
use Rattle.item_tree.proofs.tt.TopSubtreeBuilder.build.Goals as goal

pub returns-then-self-ne0-clause-whole : goal.returns-then-self-ne0-clause-whole
returns-then-self-ne0-clause-whole c =
    let some = some_are_open _ _ c.self.invariant (omega (arith, c.if-self-ne0.true)) in
    let view = ap depth c.self.view_is in
    grind (arith, some, view)

pub whole : (c : goal.After-from_vec) → IsFlat c.from_vec.result
whole c = rw c.from_vec.ensures (whole_is_flat _ _ c.self.invariant c.if-self-ne0.false)

pub invariant_of-result : goal.invariant_of-result
invariant_of-result c = whole c

pub returns-clause-whole : goal.returns-clause-whole
returns-clause-whole c =
    let none = none_is_open _ _ c.self.invariant c.if-self-ne0.false in
    let view = ap depth c.self.view_is in
    grind (arith, none, view)

pub returns-clause-text : goal.returns-clause-text
returns-clause-text c =
    text_of_flat _ (whole c) ∙ ap (λ t. map piece_of t) c.from_vec.ensures ∙ c.self.view_is
