use Rattle.std.proofs.Common.{rules}
use Rattle.def_parts.proofs.mod_resolution.dir_path.skip_dot.Goals as goal

pub returns-in-Some : goal.returns-in-Some
returns-in-Some c = search rules
