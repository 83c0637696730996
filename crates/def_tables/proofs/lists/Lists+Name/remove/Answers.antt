use Rattle.std.proofs.Common.{◌∙◌, None, Option, List, ap, arith, option_map, subst, sym}
use Rattle.std.specs.Prelude.{IfSome}
use Rattle.indexmap.specs.IndexMap.{get}
use Rattle.tree_ids.specs.declared.name.Name.{Name}
use Rattle.def_ids.specs.Ids.{is_same_module}
use Rattle.def_bindings.specs.Content.{listed_as, without_name}
use Rattle.def_tables.specs.Lists.{AreDistinct, lists_in, lists_of, row_items, rows_of, with_row}
use Rattle.def_tables.proofs.ByModuleLemmas.{lists-changed, listed_as-same}
use Rattle.def_tables.proofs.ListsLemmas.{held, is-row, no-list, row-changed, other-changed}
use Rattle.def_tables.proofs.NamesLemmas.{row-once}
use Rattle.def_tables.proofs.ResultLemmas.{some_there, none_there}
use Rattle.def_tables.proofs.lists.Lists+Name.remove.Goals as goal

pub returns-then-is_some : goal.returns-then-is_some
returns-then-is_some c =
    let l = c.args.self.now in
    let there = is-row _ c.row.result (rows_of l c.args.module) _ c.row.ensures c.if-is_some.ensures in
    row-changed l.map l.rows.items c.args.module there c.index_mut.result.now (lists_in l.others) c.take_out_of_row.new.row (λ xs. without_name xs c.args.name)
    (c.take_out_of_row.ensures ∙ ap (λ r. option_map (λ xs. without_name xs c.args.name) (row_items r)) c.index_mut.ensures.value)

pub returns-in-Some : goal.returns-in-Some
returns-in-Some c =
    let l = c.args.self.now in
    let none = none_there (is-row _ c.row.result (rows_of l c.args.module) _ c.row.ensures c.if-is_some.ensures) in
    let there = sym c.in-Some.ensures.value in
    let after = ((c.get_mut.follows.holds c.take_out.new.names).3 (some_there there)).0 in
    other-changed (rows_of l) (lists_in l.others) c.args.module (lists_in (c.get_mut.follows.lender c.take_out.new.names)) (λ xs. without_name xs c.args.name) none
    (lists-changed _ (get is_same_module l.others) (get is_same_module (c.get_mut.follows.lender c.take_out.new.names)) c.args.module (λ xs. without_name xs c.args.name) c.in-Some.list.now c.take_out.new.names there after c.take_out.ensures)

pub returns-in-None : goal.returns-in-None
returns-in-None c =
    let l = c.args.self.now in
    let m = c.args.module in
    let none = none_there (is-row _ c.row.result (rows_of l m) _ c.row.ensures c.if-is_some.ensures) in
    let empty = no-list (rows_of l) l.others m none (sym c.in-None.ensures.value) in
    ap (λ o. with_row (rows_of l) (lists_in o)) c.get_mut.follows.holds-at-none
    ∙ sym (listed_as-same (lists_of l) m)
    ∙ ap (listed_as (lists_of l) m) (empty ∙ ap (λ xs. without_name xs c.args.name) (sym empty))

pub index_mut-requires : goal.index_mut-requires
index_mut-requires c =
    let l = c.args.self.now in
    omega (arith, l.rows.ok, (held l.map l.rows.items c.args.module (is-row _ c.row.result (rows_of l c.args.module) _ c.row.ensures c.if-is_some.ensures) None).1)

pub take_out_of_row-requires : goal.take_out_of_row-requires
take_out_of_row-requires c =
    let l = c.args.self.now in
    let there = is-row _ c.row.result (rows_of l c.args.module) _ c.row.ensures c.if-is_some.ensures in
    subst (λ (o : Option (List Name)). IfSome o AreDistinct)
    ((held l.map l.rows.items c.args.module there c.index_mut.result.now).2 ∙ ap row_items (sym c.index_mut.ensures.value))
    (row-once (rows_of l c.args.module) (lists_in l.others c.args.module) c.requires)
