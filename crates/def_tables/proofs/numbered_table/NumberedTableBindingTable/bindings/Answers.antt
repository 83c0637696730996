use Rattle.std.proofs.Common.{ap, ◌∙◌}
use Rattle.def_bindings.specs.NameBindings.{bound_in}
use Rattle.def_tables.specs.BoundName.{meaning_of}
use Rattle.def_tables.proofs.BoundNameLemmas.{bound_in-unbound}
use Rattle.def_tables.specs.NumberedTable.{content_of}
use Rattle.def_tables.proofs.numbered_table.NumberedTableBindingTable.bindings.Goals as goal

pub returns-in-Some : goal.returns-in-Some
unfolding content_of
returns-in-Some g c = c.all.ensures ∙ ap (meaning_of g.K.Kept.meaning c.args.self.now.map) c.in-Some.ensures

pub returns-in-None : goal.returns-in-None
unfolding content_of
returns-in-None g c =
    ap bound_in c.unbound.ensures ∙ bound_in-unbound ∙ ap (meaning_of g.K.Kept.meaning c.args.self.now.map) c.in-None.ensures
