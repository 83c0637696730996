use Rattle.std.proofs.Common.{ap, sym, ◌∙◌}
use Rattle.def_tables.specs.BoundName.{stands_for}
use Rattle.def_tables.specs.Parts.{parts_in}
use Rattle.def_tables.proofs.bound_name.BoundName.all.Goals as goal

pub returns-in-Each : goal.returns-in-Each
returns-in-Each g c = c.all.ensures ∙ ap (λ e. parts_in g.K.Kept.meaning c.args.map e.parts) c.deref.ensures ∙ ap (stands_for g.K.Kept.meaning c.args.map) (sym c.in-Each.is)
