use Rattle.std.proofs.Common.{arith}
use Rattle.def_interner.proofs.SessionLemmas.{injective_from_tables}
use Rattle.def_interner.proofs.interner.Interner.has_unique_ids.Goals as goal

pub returns : goal.returns
returns c = grind (arith, injective_from_tables)
