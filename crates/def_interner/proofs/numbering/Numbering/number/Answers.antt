use Rattle.std.proofs.Common.{rules}
use Rattle.def_interner.proofs.NumberingLemmas.{absent_from_test, injective_from_distinct}
use Rattle.def_interner.proofs.numbering.Numbering.number.Goals as goal

pub returns-in_err-i-clause-injective : goal.returns-in_err-i-clause-injective
returns-in_err-i-clause-injective g c = injective_from_distinct g.met.T.Eq.laws c.insert_full.new.self.keys c.insert_full.ensures.unique

pub returns-clause-injective : goal.returns-clause-injective
returns-clause-injective g c = injective_from_distinct g.met.T.Eq.laws c.insert_full.new.self.keys c.insert_full.ensures.unique

pub returns-in_err-i-clause-fresh : goal.returns-in_err-i-clause-fresh
returns-in_err-i-clause-fresh g c =
    let absent = absent_from_test g.met.T.Eq.laws c.self.inside.values.keys c.args.value c.in_err-i.ensures.absent in
    rw (← c.self.view_is) (search rules)

pub returns-clause-stored : goal.returns-clause-stored
returns-clause-stored g c = search rules

pub returns-clause-grown : goal.returns-clause-grown
returns-clause-grown g c = search rules
