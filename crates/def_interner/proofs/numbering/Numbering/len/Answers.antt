use Rattle.def_interner.proofs.NumberingLemmas.{injective_from_distinct}
use Rattle.def_interner.proofs.numbering.Numbering.len.Goals as goal

pub returns-clause-injective : goal.returns-clause-injective
returns-clause-injective g c =
    rw (← c.self.view_is) (injective_from_distinct g.met.T.Eq.laws c.self.inside.values.keys c.len.ensures.unique)
