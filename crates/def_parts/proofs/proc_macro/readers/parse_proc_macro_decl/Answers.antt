use Rattle.std.proofs.Common.{rules}
use Rattle.def_parts.proofs.proc_macro.readers.parse_proc_macro_decl.Goals as goal

pub returns : goal.returns
returns c = search rules
