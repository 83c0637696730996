use Rattle.std.proofs.Common.{rules}
use Rattle.def_paths.proofs.answers.is_elsewhere.Goals as goal

pub returns-in-Module : goal.returns-in-Module
returns-in-Module c = search rules
