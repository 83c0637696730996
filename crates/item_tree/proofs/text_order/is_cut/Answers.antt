use Rattle.std.proofs.Common.{ℕ, arith, ◌+◌, rules, length, drop, subst, get_or}
use Rattle.std.proofs.lemmas.Option.{slice_get-get_or, slice_get_within}
use Rattle.item_tree.specs.TextOrder.{IsWithin}
use Rattle.item_tree.proofs.TextOrderLemmas.{rising_at, rising_lower, rising_rest, within_join, cut_more, into_prefix}
use Rattle.item_tree.proofs.text_order.is_cut.Goals as goal

pub next_subtree-at-requires-clause-there : goal.next_subtree-at-requires-clause-there
next_subtree-at-requires-clause-there c =
    let at = slice_get-get_or c.args.list.now c.loop-c.c-index (record { 0 = 0 }) c.loop-c-test.true in
    (rising_at _ _ _ _ _ c.requires.list_rising at).1

pub loop-c-preserved : goal.loop-c-preserved
loop-c-preserved c =
    let items = c.args.items.now in
    let low = c.args.low in
    let list = c.args.list.now in
    let i = c.loop-c.c-index in
    let next = c.next_subtree-at.result in
    let child = get_or list i (record { 0 = 0 }) in
    let at = slice_get-get_or list i (record { 0 = 0 }) c.loop-c-test.true in
    let within = within_join items low c.loop-c.at next c.loop-c.invariant.within c.next_subtree-at.ensures.within c.next_subtree-at.ensures.after in
    let rest = rising_rest (length items) c.loop-c.at i list child at c.loop-c.invariant.rest in
    record {
      after = omega (arith, c.loop-c.invariant.after, c.next_subtree-at.ensures.after);
      within = within;
      cut = cut_more items low i list child c.loop-c.invariant.cut at (subst (λ (n : ℕ). IsWithin items low n n) c.if-at-c.false within);
      rest = rising_lower (length items) (child.0 + 1) next (drop (i + 1) list) (omega (arith, c.if-at-c.false)) rest.2;
    }

pub returns-then-at-c : goal.returns-then-at-c
returns-then-at-c c =
    let items = c.args.items.now in
    let list = c.args.list.now in
    let i = c.loop-c.c-index in
    let child = get_or list i (record { 0 = 0 }) in
    let at = slice_get-get_or list i (record { 0 = 0 }) c.loop-c-test.true in
    let rest = rising_rest (length items) c.loop-c.at i list child at c.loop-c.invariant.rest in (
      λ yes. absurd (search (rules, yes)),
      λ cut.
          let near = c.next_subtree-at.ensures.nearest rest.0 (λ j k d from. cut i child at j k d (omega (arith, c.loop-c.invariant.after, from))) in
          absurd (c.if-at-c.true (omega (arith, near, c.next_subtree-at.ensures.behind))),
    )

pub returns : goal.returns
returns c = (
  λ yes k d at.
      let place = slice_get_within c.args.list.now k d at in
      c.loop-c.invariant.cut k d (into_prefix c.loop-c.c-index c.args.list.now k d (omega (arith, place, c.loop-c-test.false)) at),
  λ cut. search rules,
)
