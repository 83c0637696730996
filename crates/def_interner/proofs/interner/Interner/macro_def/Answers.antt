use Rattle.std.proofs.Common.{rules}
use Rattle.def_interner.proofs.interner.Interner.macro_def.Goals as goal

pub returns-in_ok-loc-in-MacroRules : goal.returns-in_ok-loc-in-MacroRules
returns-in_ok-loc-in-MacroRules c = search rules
