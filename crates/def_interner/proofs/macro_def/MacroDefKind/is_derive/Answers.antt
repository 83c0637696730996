use Rattle.std.proofs.Common.{rules}
use Rattle.def_interner.proofs.macro_def.MacroDefKind.is_derive.Goals as goal

pub returns-in-Declarative : goal.returns-in-Declarative
returns-in-Declarative c = search rules
