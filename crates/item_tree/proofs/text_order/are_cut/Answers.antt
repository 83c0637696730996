use Rattle.std.proofs.Common.{◌≡◌, ℕ, ◌<◌, ◌+◌, ◌-◌, inl, inr, arith, refl, sym, subst, ◌∙◌, List, length}
use Rattle.std.proofs.lemmas.Bool.{cases_lt, false≢true}
use Rattle.tree_ids.specs.declared.ids.ModItemId.{ModItemId}
use Rattle.item_tree.specs.Trees.{children_at}
use Rattle.item_tree.specs.TextOrder.{IsCut, IsRising}
use Rattle.item_tree.proofs.TextOrderLemmas.{cut_past}
use Rattle.item_tree.proofs.TreesLemmas.{children_read}
use Rattle.item_tree.proofs.text_order.are_cut.Goals as goal

pub returns-then-not-is_cut : goal.returns-then-not-is_cut
returns-then-not-is_cut c =
    let items = c.args.items.now in
    let i = c.items.i - 1 in
    let there : i < length items = omega (arith, c.items-test.true, c.items.invariant.within) in
    let same = children_read items i c.index-items-i.result there c.index-items-i.is ∙ sym c.children.ensures in (
      λ yes. absurd (false≢true yes),
      λ cut. sym c.if-not-is_cut.true ∙ c.is_cut.ensures.1 (subst (λ (list : List ModItemId). IsCut items (i + 1) list) same (cut i (omega arith))),
    )

pub items-preserved : goal.items-preserved
items-preserved c =
    let items = c.args.items.now in
    let i = c.items.i - 1 in
    let there : i < length items = omega (arith, c.items-test.true, c.items.invariant.within) in
    let same = children_read items i c.index-items-i.result there c.index-items-i.is ∙ sym c.children.ensures in
    let here = subst (λ (list : List ModItemId). IsCut items (i + 1) list) (sym same) (c.is_cut.ensures.0 c.if-not-is_cut.false) in
    record {
      within = omega (arith, c.items.invariant.within);
      cut = λ j from. elim (cases_lt i j) [
        | inl behind ↦ c.items.invariant.cut j (omega (arith, behind))
        | inr upto ↦ (let equal : i ≡ j = omega (arith, from, upto) in subst (λ (n : ℕ). IsCut items (n + 1) (children_at items n)) equal here)
      ];
    }

pub items-init : goal.items-init
items-init c = record { within = omega arith; cut = cut_past c.args.items.now }

pub is_cut-requires : goal.is_cut-requires
is_cut-requires c =
    let items = c.args.items.now in
    let i = c.items.i - 1 in
    let there : i < length items = omega (arith, c.items-test.true, c.items.invariant.within) in
    let same = children_read items i c.index-items-i.result there c.index-items-i.is ∙ sym c.children.ensures in
    record {
      rising = c.requires;
      cut = λ j from. c.items.invariant.cut j (omega (arith, from));
      list_rising = subst (IsRising (length items) (i + 1)) same (c.requires i);
    }

pub returns : goal.returns
returns c = (λ yes j from. c.items.invariant.cut j (omega (arith, c.items-test.false)), λ cut. refl)
