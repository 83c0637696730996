use Rattle.std.proofs.Common.{rules}
use Rattle.def_parts.proofs.mod_resolution.ModDir.descend_into_definition.Goals as goal

pub returns : goal.returns
returns c = search rules
