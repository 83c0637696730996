use Rattle.std.proofs.Common.{◌≤◌, ◌∙◌, arith, length, refl, subst, sym}
use Rattle.std.proofs.lemmas.Bool.{false≢true}
use Rattle.std.specs.Prelude.{Any}
use Rattle.item_tree.proofs.TreesLemmas.{below_three, none_before, own_children, own_list}
use Rattle.item_tree.proofs.tree.first_fault_at.Goals as goal

pub returns-then-is_any_from : goal.returns-then-is_any_from
returns-then-is_any_from c =
    let items = c.args.items.now in
    let top = c.args.top.now in
    let item = c.index-items-i.result in
    let read = c.children-children.ensures in
    let found : Any (λ child. length items ≤ child.0) c.children-children.result.now = c.is_any_from.ensures.0 c.if-is_any_from.true in (
      refl,
      subst (Any (λ child. length items ≤ child.0)) (read ∙ sym (own_list items top c.args.i item c.requires c.index-items-i.is)) found,
      none_before items top c.args.i item c.requires c.index-items-i.is 0 (λ h. omega arith) (λ h. omega arith) (λ h. omega arith),
    )

pub returns-then-is_any_up_to : goal.returns-then-is_any_up_to
returns-then-is_any_up_to c =
    let items = c.args.items.now in
    let top = c.args.top.now in
    let item = c.index-items-i.result in
    let read = c.children-children.ensures in
    let found : Any (λ child. child.0 ≤ c.args.i) c.children-children.result.now = c.is_any_up_to.ensures.0 c.if-is_any_up_to.true in (
      refl,
      subst (Any (λ child. child.0 ≤ c.args.i)) (read ∙ sym (own_children items top c.args.i item c.requires c.index-items-i.is)) found,
      none_before items top c.args.i item c.requires c.index-items-i.is 1 (λ h any. false≢true (sym c.if-is_any_from.false ∙ c.is_any_from.ensures.1 (subst (Any (λ child. length items ≤ child.0)) (sym read) any))) (λ h. omega arith)
          (λ h. omega arith),
    )

pub returns-then-stands_twice : goal.returns-then-stands_twice
returns-then-stands_twice c =
    let items = c.args.items.now in
    let top = c.args.top.now in
    let item = c.index-items-i.result in
    let read = c.children-children.ensures in (
      refl,
      (c.requires, c.stands_twice.ensures.0 c.if-stands_twice.true),
      none_before items top c.args.i item c.requires c.index-items-i.is 2 (λ h any. false≢true (sym c.if-is_any_from.false ∙ c.is_any_from.ensures.1 (subst (Any (λ child. length items ≤ child.0)) (sym read) any)))
          (λ h any. false≢true (sym c.if-is_any_up_to.false ∙ c.is_any_up_to.ensures.1 (subst (Any (λ child. child.0 ≤ c.args.i)) (sym read) any))) (λ h. omega arith),
    )

pub returns-else-stands_twice : goal.returns-else-stands_twice
returns-else-stands_twice c = λ fault same.
    let items = c.args.items.now in
    let top = c.args.top.now in
    let item = c.index-items-i.result in
    let read = c.children-children.ensures in
    none_before items top c.args.i item c.requires c.index-items-i.is 3 (λ h any. false≢true (sym c.if-is_any_from.false ∙ c.is_any_from.ensures.1 (subst (Any (λ child. length items ≤ child.0)) (sym read) any)))
    (λ h any. false≢true (sym c.if-is_any_up_to.false ∙ c.is_any_up_to.ensures.1 (subst (Any (λ child. child.0 ≤ c.args.i)) (sym read) any))) (λ h twice. false≢true (sym c.if-stands_twice.false ∙ c.stands_twice.ensures.1 twice)) fault same
    (below_three fault)
