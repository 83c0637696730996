use Rattle.std.proofs.Common.{rules}
use Rattle.def_paths.proofs.path_resolution.module_reached.Goals as goal

pub returns-in-Module : goal.returns-in-Module
returns-in-Module c = search rules
