use Rattle.std.proofs.Common.{rules}
use Rattle.def_interner.proofs.interner.Interner.text.Goals as goal

pub returns : goal.returns
returns c = search rules
