use Rattle.std.proofs.Common.{◌∙◌, ◌<◌, Some, ap, arith, cond, length, refl, set, subst, sym}
use Rattle.def_ids.specs.Ids.{is_same_module}
use Rattle.def_tables.specs.Lists.{row_in}
use Rattle.def_tables.proofs.ListsLemmas.{row-set}
use Rattle.def_tables.proofs.lists.set_row.Goals as goal

pub returns-clause-done : goal.returns-clause-done
returns-clause-done g c map m own at q =
    let inside : c.args.index < length c.pad.new.rows.items = omega (arith, c.in_ok-pad.ensures.len) in
    ap (λ i. row_in map (set c.pad.new.rows.items i (Some c.args.list)) q) (sym at)
    ∙ row-set map c.pad.new.rows.items m (Some c.args.list) c.args.list.items own (subst (λ i. i < length c.pad.new.rows.items) (sym at) inside) refl q
    ∙ ap (λ (r : _). cond (is_same_module m q) (Some c.args.list.items) (r q)) (c.in_ok-pad.ensures.rows map)
