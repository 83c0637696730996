use Rattle.std.proofs.Common.{arith, sym, ◌∙◌}
use Rattle.std.proofs.lemmas.Bool.{false≢true}
use Rattle.item_tree.proofs.TextOrderLemmas.{sound_in_text_order}
use Rattle.item_tree.proofs.TreesLemmas.{sound_from_below, top_fault}
use Rattle.item_tree.proofs.tree.first_fault.Goals as goal

pub returns-then-is_in_text_order-clause-none : goal.returns-then-is_in_text_order-clause-none
returns-then-is_in_text_order-clause-none c = sound_in_text_order _ _ (c.is_in_text_order.ensures.0 c.if-is_in_text_order.true)

pub returns-clause-none : goal.returns-clause-none
returns-clause-none c =
    sound_from_below _ _
    (λ fault below. c.loop-i.invariant fault (omega (arith, below, c.loop-i-test.false)))
    (λ wrong. false≢true (sym c.if-is_any_from.false ∙ c.is_any_from.ensures.1 wrong))

pub loop-i-init : goal.loop-i-init
loop-i-init c = λ fault below. absurd (omega (arith, below))

pub returns-then-is_any_from-clause-some : goal.returns-then-is_any_from-clause-some
returns-then-is_any_from-clause-some c = top_fault _ _ (c.is_any_from.ensures.0 c.if-is_any_from.true) (λ fault below. c.loop-i.invariant fault (omega (arith, below, c.loop-i-test.false)))
