use Rattle.std.proofs.Common.{◌≡◌, ℕ, ◌+◌, arith, inl, inr, length, refl, subst, sym, ◌∙◌}
use Rattle.std.proofs.lemmas.Bool.{cases_lt, false≢true}
use Rattle.item_tree.specs.Trees.{children_at}
use Rattle.item_tree.specs.TextOrder.{IsRising}
use Rattle.item_tree.proofs.TreesLemmas.{children_past, children_read}
use Rattle.item_tree.proofs.text_order.are_rising.Goals as goal

pub loop-i-init : goal.loop-i-init
loop-i-init c = λ j below. absurd (omega (arith, below))

pub returns-then-not-is_rising : goal.returns-then-not-is_rising
returns-then-not-is_rising c =
    let items = c.args.items.now in
    let i = c.loop-i.i in
    let same = children_read items i c.index-items-i.result c.loop-i-test.true c.index-items-i.is ∙ sym c.children.ensures in (
      λ yes. absurd (false≢true yes),
      λ rising. sym c.if-not-is_rising.true ∙ c.is_rising.ensures.1 (subst (IsRising (length items) (i + 1)) same (rising i)),
    )

pub loop-i-preserved : goal.loop-i-preserved
loop-i-preserved c = λ j below.
    let items = c.args.items.now in
    let i = c.loop-i.i in
    let same = children_read items i c.index-items-i.result c.loop-i-test.true c.index-items-i.is ∙ sym c.children.ensures in
    elim (cases_lt j i) [
      | inl before ↦ c.loop-i.invariant j before
      | inr from ↦
          let equal : i ≡ j = omega (arith, below, from) in
          let here = subst (IsRising (length items) (i + 1)) (sym same) (c.is_rising.ensures.0 c.if-not-is_rising.false) in
          subst (λ (n : ℕ). IsRising (length items) (n + 1) (children_at items n)) equal here
    ]

pub returns : goal.returns
returns c = (
  λ yes j.
      let items = c.args.items.now in
      elim (cases_lt j (length items)) [
        | inl there ↦ c.loop-i.invariant j (omega (arith, there, c.loop-i-test.false))
        | inr past ↦ subst (IsRising (length items) (j + 1)) (sym (children_past items j past)) tt
      ],
  λ rising. refl,
)
