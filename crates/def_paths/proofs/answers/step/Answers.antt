use Rattle.std.proofs.Common.{rules}
use Rattle.def_paths.proofs.answers.step.Goals as goal

pub returns-in-Module : goal.returns-in-Module
returns-in-Module g c = search rules
