use Rattle.std.proofs.Common.{sym, ap, ◌∙◌}
use Rattle.std.specs.Prelude.{option_map}
use Rattle.std.proofs.lemmas.Option.{slice_get-map}
use Rattle.def_tables.specs.Link.{edge_of}
use Rattle.def_tables.specs.Numbers.{own_entries}
use Rattle.def_tables.specs.NumberedTable.{content_of}
use Rattle.def_tables.proofs.numbered_table.NumberedTableBindingTable.edge_at.Goals as goal

pub returns-in-Some-clause-edge : goal.returns-in-Some-clause-edge
unfolding content_of
returns-in-Some-clause-edge g c =
    let es = own_entries c.args.self.now.edges.entries.entries c.args.module in
    sym (slice_get-map edge_of es c.args.index ∙ ap (λ o. option_map edge_of o) (sym c.in-Some.ensures.entry))

pub returns-in-None-clause-edge : goal.returns-in-None-clause-edge
unfolding content_of
returns-in-None-clause-edge g c =
    let es = own_entries c.args.self.now.edges.entries.entries c.args.module in
    sym (slice_get-map edge_of es c.args.index ∙ ap (λ o. option_map edge_of o) (sym c.in-None.ensures.entry))
