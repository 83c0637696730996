use Rattle.std.proofs.Common.{arith, sym, ap, ◌∙◌}
use Rattle.std.specs.Option.{option_copied}
use Rattle.item_tree.specs.Trees.{children_at}
use Rattle.item_tree.proofs.TextOrderLemmas.{rising_at, last_place, empty_from_none, within_last, within_end}
use Rattle.item_tree.proofs.TreesLemmas.{children_read}
use Rattle.item_tree.proofs.text_order.subtree_end.Goals as goal

pub last-smaller : goal.last-smaller
last-smaller c =
    let items = c.args.items.now in
    let last = c.last.last in
    let same = c.children.ensures ∙ sym (children_read items last c.index-items-last.result c.last.invariant.there c.index-items-last.is) in
    let child = last_place c.children.result.now (children_at items last) c.in-Some.child.now same (sym c.last-in-last.ensures.value ∙ ap option_copied c.in-Some.is) in
    let ahead = rising_at _ _ _ _ _ (c.requires.rising last) child.0 in
    omega (arith, ahead.0, ahead.1)

pub last-preserved : goal.last-preserved
last-preserved c =
    let items = c.args.items.now in
    let last = c.last.last in
    let same = c.children.ensures ∙ sym (children_read items last c.index-items-last.result c.last.invariant.there c.index-items-last.is) in
    let child = last_place c.children.result.now (children_at items last) c.in-Some.child.now same (sym c.last-in-last.ensures.value ∙ ap option_copied c.in-Some.is) in
    let ahead = rising_at _ _ _ _ _ (c.requires.rising last) child.0 in
    record {
      there = ahead.1;
      after = omega (arith, ahead.0, c.last.invariant.after);
      within = within_last items c.args.i last _ _ c.last.invariant.within c.requires.rising (c.requires.cut last c.last.invariant.after) child.0 child.1;
      nearest = λ to before within. within last _ _ c.last.invariant.after (c.last.invariant.nearest to before within) child.0;
    }

pub returns-clause-within : goal.returns-clause-within
returns-clause-within c =
    let items = c.args.items.now in
    let last = c.last.last in
    let same = c.children.ensures ∙ sym (children_read items last c.index-items-last.result c.last.invariant.there c.index-items-last.is) in
    let none = empty_from_none c.children.result.now (children_at items last) same (sym c.last-in-last.ensures.value ∙ ap option_copied c.in_default.is) in
    within_end items c.args.i last c.last.invariant.within none
