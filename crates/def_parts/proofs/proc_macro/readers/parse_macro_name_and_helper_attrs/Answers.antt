use Rattle.std.proofs.Common.{rules}
use Rattle.std.proofs.lemmas.Result.{IfOk-from_err}
use Rattle.def_parts.proofs.proc_macro.readers.parse_macro_name_and_helper_attrs.Goals as goal

pub returns-in_default-2 : goal.returns-in_default-2
returns-in_default-2 c = search rules

pub returns-in_err-idents : goal.returns-in_err-idents
returns-in_err-idents c = IfOk-from_err _ _ c.from_residual.ensures.0
