use Rattle.std.proofs.Common.{Some, ap, sym, ◌∙◌}
use Rattle.std.proofs.lemmas.Bool.{not-false, not-true}
use Rattle.def_tables.specs.Lists.{row_items}
use Rattle.def_tables.proofs.ListsLemmas.{no-row, row-read, same_map}
use Rattle.def_tables.proofs.lists.Lists.row.Goals as goal

pub returns-then-ne : goal.returns-then-ne
returns-then-ne g c =
    let l = c.args.self.now in
    no-row l.map l.rows.items c.args.module (same_map c.args.module.map l.map ∙ not-true _ (sym c.if-ne.ensures))

pub returns-in-Some-Some : goal.returns-in-Some-Some
returns-in-Some-Some g c =
    let l = c.args.self.now in
    let found = c.in-Some-Some.ensures.lookup in
    ap Some c.as_slice-in-Some-Some.ensures.value ∙ ap row_items (sym c.in-Some-Some.field-0-is)
    ∙ row-read l.map l.rows.items c.args.module c.as_slice.result.now c.in-Some-Some.field-0.now (same_map c.args.module.map l.map ∙ not-false _ (sym c.if-ne.ensures)) c.as_slice.ensures.value found.3.0 found.1
