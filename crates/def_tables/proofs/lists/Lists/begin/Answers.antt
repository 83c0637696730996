use Rattle.std.proofs.Common.{◌≡◌, ◌∷◌, [], ◌++◌, ◌∙◌, ap, refl}
use Rattle.def_tables.specs.Lists.{lists_in, row_in, rows_of}
use Rattle.def_tables.proofs.ListsLemmas.{begun-row, begun-other, both-same}
use Rattle.def_tables.proofs.ResultLemmas.{OnOk_then, OnErr_then}
use Rattle.def_tables.proofs.lists.Lists.begin.Goals as goal

pub returns-then-takes_row-clause-done : goal.returns-then-takes_row-clause-done
returns-then-takes_row-clause-done g c =
    let l = c.args.self.now in
    let t = c.takes_row.new.self in
    let one : c.push.new.self.items ≡ c.args.item ∷ [] = ◌∙◌ {b = c.in_ok-list.list.items ++ c.args.item ∷ []} c.in_ok-push.ensures.items (ap (λ xs. xs ++ c.args.item ∷ []) c.in_ok-list.ensures) in
    OnOk_then _ c.set_row.ensures.done
    (λ row. begun-row (rows_of t) (lists_in t.others) c.args.module (rows_of l) (row_in t.map c.set_row.new.rows.items) (lists_in l.others) c.push.new.self.items (c.args.item ∷ [])
    (row t.map c.args.module (c.if-takes_row.ensures.map refl) refl)
    one
    c.takes_row.ensures.rows (ap lists_in c.takes_row.ensures.others))

pub returns-then-takes_row-clause-refused : goal.returns-then-takes_row-clause-refused
returns-then-takes_row-clause-refused g c =
    let l = c.args.self.now in
    let t = c.takes_row.new.self in
    OnErr_then _ c.set_row.ensures.refused
    (λ row. both-same (row_in t.map c.set_row.new.rows.items) (rows_of l) (lists_in t.others) (lists_in l.others) (row t.map ∙ c.takes_row.ensures.rows) (ap lists_in c.takes_row.ensures.others))

pub returns-clause-done : goal.returns-clause-done
returns-clause-done g c =
    let l = c.args.self.now in
    let t = c.takes_row.new.self in
    let one : c.push.new.self.items ≡ c.args.item ∷ [] = ◌∙◌ {b = c.in_ok-list.list.items ++ c.args.item ∷ []} c.in_ok-push.ensures.items (ap (λ xs. xs ++ c.args.item ∷ []) c.in_ok-list.ensures) in
    OnOk_then _ c.begin_other.ensures.done
    (λ other. begun-other (rows_of t) (lists_in t.others) c.args.module (rows_of l) (lists_in l.others) (lists_in c.begin_other.new.others) c.push.new.self.items (c.args.item ∷ [])
    c.requires.row other
    one
    c.takes_row.ensures.rows (ap lists_in c.takes_row.ensures.others))

pub returns-clause-refused : goal.returns-clause-refused
returns-clause-refused g c =
    let l = c.args.self.now in
    let t = c.takes_row.new.self in
    OnErr_then _ c.begin_other.ensures.refused
    (λ other. both-same (rows_of t) (rows_of l) (lists_in c.begin_other.new.others) (lists_in l.others) c.takes_row.ensures.rows (other ∙ ap lists_in c.takes_row.ensures.others))
