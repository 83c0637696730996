use Rattle.std.proofs.Common.{rules}
use Rattle.def_macros.proofs.definitions.define_macro.Goals as goal

pub returns : goal.returns
returns c = search rules
