use Rattle.std.proofs.Common.{ap, ◌∙◌}
use Rattle.def_bindings.specs.declared.bindings.Slot.TheVariants.{Named}
use Rattle.def_bindings.specs.Puts.{if_vacant, written}
use Rattle.def_tables.specs.NumberedTable.{content_of}
use Rattle.def_tables.proofs.numbered_table.NumberedTableBindingTable.set.Goals as goal

pub returns-clause-done : goal.returns-clause-done
unfolding content_of
returns-clause-done g c =
    let put = c.in_ok-put.ensures.done in
    put.1 ∙ ap (λ wrote. written (content_of g.K.Kept.meaning c.args.self.now) c.args.module (Named c.args.name c.args.ns) (if_vacant wrote c.args.binding)) put.0
