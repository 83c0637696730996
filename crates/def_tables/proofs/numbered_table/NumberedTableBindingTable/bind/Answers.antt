use Rattle.std.proofs.Common.{◌≡◌, Some, ap, subst, sym, true, ◌∙◌}
use Rattle.std.specs.Prelude.{IfOk, is_none, option_map}
use Rattle.def_tables.specs.NumberedTable.{content_of}
use Rattle.def_bindings.specs.Puts.{held, if_vacant, unnamed_binding, written}
use Rattle.def_tables.proofs.numbered_table.NumberedTableBindingTable.bind.Goals as goal

pub returns-in-Named-clause-done : goal.returns-in-Named-clause-done
unfolding content_of
returns-in-Named-clause-done g c =
    let before = content_of g.K.Kept.meaning c.args.self.now in
    let after = content_of g.K.Kept.meaning c.put.new.self in
    let m = c.args.module in
    let b = c.args.binding.now in
    subst (λ slot. IfOk c.put.result (λ vacant. (vacant ≡ is_none (held before m slot)) × (after ≡ written before m slot (if_vacant vacant b)))) (sym c.in-Named.is) c.put.ensures.done

pub returns-in_ok-set_unnamed-in-None-clause-done : goal.returns-in_ok-set_unnamed-in-None-clause-done
unfolding content_of
returns-in_ok-set_unnamed-in-None-clause-done g c =
    let before = content_of g.K.Kept.meaning c.args.self.now in
    let after = content_of g.K.Kept.meaning c.set_unnamed.new.self in
    let m = c.args.module in
    let b = c.args.binding.now in
    subst (λ slot. (true ≡ is_none (held before m slot)) × (after ≡ written before m slot (Some b))) (sym c.in-Unnamed.is)
    (ap (λ o. is_none (option_map (unnamed_binding c.in-Unnamed.item) o)) (sym c.in-None.is ∙ c.unnamed_vis.ensures), c.in_ok-set_unnamed-in-None.ensures.done)
