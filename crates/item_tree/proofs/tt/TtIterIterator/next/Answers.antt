use Rattle.std.proofs.Common.{ap, ◌∙◌, ◌∷◌, sym}
use Rattle.item_tree.specs.TokenTrees.{elements}
use Rattle.item_tree.proofs.TokenTreesLemmas.{flat_when, flat_behind, begins_when, begins_within, after_close, elements_begin, elements_leaf, fewer, Begins}
use Rattle.item_tree.proofs.tt.TtIterIterator.next.Goals as goal

pub begun : (c : goal.After-self-in-Open-1) → Begins c.in-Open.len c.in_ok-first.behind.now
begun c = begins_when _ _ _ c.self.invariant (c.in_ok-first.ensures.cases.0 ∙ ap (λ t. t ∷ c.in_ok-first.behind.now) c.in-Open.is)

pub invariant_of-result : goal.invariant_of-result
invariant_of-result c = flat_when _ _ (c.split_at.ensures.front ∙ (begun c).front)

pub invariant_of-self-in-Open : goal.invariant_of-self-in-Open
invariant_of-self-in-Open c = flat_when _ _ (after_close _ _ (c.split_at.ensures.back ∙ (begun c).back))

pub returns-in-Open-clause-steps : goal.returns-in-Open-clause-steps
returns-in-Open-clause-steps c =
    ap elements (sym c.self.view_is)
    ∙ elements_begin _ _ _ _ _ (c.in_ok-first.ensures.cases.0 ∙ ap (λ t. t ∷ c.in_ok-first.behind.now) c.in-Open.is) (begun c)
    (c.split_at.ensures.front ∙ (begun c).front) (after_close _ _ (c.split_at.ensures.back ∙ (begun c).back))

pub returns-in-Open-clause-goes : goal.returns-in-Open-clause-goes
returns-in-Open-clause-goes c =
    let less = fewer _ _ _ (returns-in-Open-clause-steps c) in
    record { on = λ finite. (tt, tt, less); keeps = tt; rests = λ finite. tt }

pub split_at-requires : goal.split_at-requires
split_at-requires c = begins_within _ _ (begins_when _ _ _ c.self.invariant (c.in_ok-first.ensures.cases.0 ∙ ap (λ t. t ∷ c.in_ok-first.behind.now) c.in-Open.is))

pub invariant_of-self : goal.invariant_of-self
invariant_of-self c = flat_behind _ _ _ c.self.invariant (c.in_ok-first.ensures.cases.0 ∙ ap (λ t. t ∷ c.in_ok-first.behind.now) c.in-Leaf.is)

pub returns-in-Leaf-clause-steps : goal.returns-in-Leaf-clause-steps
returns-in-Leaf-clause-steps c = ap elements (sym c.self.view_is) ∙ elements_leaf _ _ _ (c.in_ok-first.ensures.cases.0 ∙ ap (λ t. t ∷ c.in_ok-first.behind.now) c.in-Leaf.is)

pub returns-in-Leaf-clause-goes : goal.returns-in-Leaf-clause-goes
returns-in-Leaf-clause-goes c =
    let less = fewer _ _ _ (returns-in-Leaf-clause-steps c) in
    record { on = λ finite. (tt, tt, less); keeps = tt; rests = λ finite. tt }
