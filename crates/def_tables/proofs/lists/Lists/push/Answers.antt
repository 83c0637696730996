use Rattle.std.proofs.Common.{None, ◌∷◌, [], ◌++◌, ◌∙◌, ap, arith, option_map, sym}
use Rattle.indexmap.specs.IndexMap.{get}
use Rattle.def_ids.specs.Ids.{is_same_module}
use Rattle.def_bindings.specs.Content.{listed_as}
use Rattle.def_tables.specs.Lists.{lists_in, lists_of, row_items, rows_of, with_row}
use Rattle.def_tables.proofs.ByModuleLemmas.{lists-same, lists-changed}
use Rattle.def_tables.proofs.ListsLemmas.{held, is-row, no-list, row-changed, row-kept, other-changed}
use Rattle.def_tables.proofs.ResultLemmas.{some_there, none_there, OnOk_then, OnErr_then, OnErr_from}
use Rattle.def_tables.proofs.lists.Lists.push.Goals as goal

pub returns-then-is_some-clause-done : goal.returns-then-is_some-clause-done
returns-then-is_some-clause-done g c =
    let l = c.args.self.now in
    let there = is-row _ c.row.result (rows_of l c.args.module) _ c.row.ensures c.if-is_some.ensures in
    OnOk_then _ c.push_in_row.ensures.done
    (λ pushed. row-changed l.map l.rows.items c.args.module there c.index_mut.result.now (lists_in l.others) c.push_in_row.new.row (λ xs. xs ++ c.args.item ∷ [])
    (pushed ∙ ap (λ r. option_map (λ xs. xs ++ c.args.item ∷ []) (row_items r)) c.index_mut.ensures.value))

pub returns-then-is_some-clause-refused : goal.returns-then-is_some-clause-refused
returns-then-is_some-clause-refused g c =
    let l = c.args.self.now in
    let there = is-row _ c.row.result (rows_of l c.args.module) _ c.row.ensures c.if-is_some.ensures in
    OnErr_then _ c.push_in_row.ensures.refused
    (λ same. row-kept l.map l.rows.items c.args.module there c.index_mut.result.now (lists_in l.others) c.push_in_row.new.row (same ∙ ap row_items c.index_mut.ensures.value))

pub returns-in_err-push-in-Some-clause-refused : goal.returns-in_err-push-in-Some-clause-refused
returns-in_err-push-in-Some-clause-refused g c =
    let there = sym c.in-Some.ensures.value in
    let after = ((c.get_mut.follows.holds c.push.new.self).3 (some_there there)).0 in
    OnErr_from _
    (ap (with_row (rows_of c.args.self.now)) (lists-same _ (get is_same_module c.args.self.now.others) (get is_same_module (c.get_mut.follows.lender c.push.new.self)) c.args.module c.in-Some.list.now c.push.new.self there after c.in_err-push-in-Some.ensures.items))

pub returns-in_ok-push-in-Some-clause-done : goal.returns-in_ok-push-in-Some-clause-done
returns-in_ok-push-in-Some-clause-done g c =
    let l = c.args.self.now in
    let none = none_there (is-row _ c.row.result (rows_of l c.args.module) _ c.row.ensures c.if-is_some.ensures) in
    let there = sym c.in-Some.ensures.value in
    let after = ((c.get_mut.follows.holds c.push.new.self).3 (some_there there)).0 in
    other-changed (rows_of l) (lists_in l.others) c.args.module (lists_in (c.get_mut.follows.lender c.push.new.self)) (λ xs. xs ++ c.args.item ∷ []) none
    (lists-changed _ (get is_same_module l.others) (get is_same_module (c.get_mut.follows.lender c.push.new.self)) c.args.module (λ xs. xs ++ c.args.item ∷ []) c.in-Some.list.now c.push.new.self there after c.in_ok-push-in-Some.ensures.items)

pub returns-in-None-clause-refused : goal.returns-in-None-clause-refused
returns-in-None-clause-refused g c =
    OnErr_then c.begin.result c.begin.ensures.refused (λ same. same ∙ ap (λ o. with_row (rows_of c.args.self.now) (lists_in o)) c.get_mut.follows.holds-at-none)

pub index_mut-requires : goal.index_mut-requires
index_mut-requires g c =
    let l = c.args.self.now in
    omega (arith, l.rows.ok, (held l.map l.rows.items c.args.module (is-row _ c.row.result (rows_of l c.args.module) _ c.row.ensures c.if-is_some.ensures) None).1)

pub begin-requires : goal.begin-requires
begin-requires g c =
    let l = c.args.self.now in
    record {
      row = none_there (is-row _ c.row.result (rows_of l c.args.module) _ c.row.ensures c.if-is_some.ensures);
      other = ap (λ o. get is_same_module o c.args.module) c.get_mut.follows.holds-at-none ∙ sym c.in-None.ensures.value;
    }

pub returns-in-None-clause-done : goal.returns-in-None-clause-done
returns-in-None-clause-done g c =
    let l = c.args.self.now in
    let none = none_there (is-row _ c.row.result (rows_of l c.args.module) _ c.row.ensures c.if-is_some.ensures) in
    OnOk_then c.begin.result c.begin.ensures.done (λ begun.
    begun
    ∙ ap (λ o. listed_as (with_row (rows_of l) (lists_in o)) c.args.module (c.args.item ∷ [])) c.get_mut.follows.holds-at-none
    ∙ ap (λ xs. listed_as (lists_of l) c.args.module (xs ++ c.args.item ∷ [])) (sym (no-list (rows_of l) l.others c.args.module none (sym c.in-None.ensures.value))))
