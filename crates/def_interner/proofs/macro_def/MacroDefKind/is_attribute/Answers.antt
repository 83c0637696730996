use Rattle.std.proofs.Common.{rules}
use Rattle.def_interner.proofs.macro_def.MacroDefKind.is_attribute.Goals as goal

pub returns-in-BuiltInAttr : goal.returns-in-BuiltInAttr
returns-in-BuiltInAttr c = search rules
