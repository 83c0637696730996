use Rattle.std.proofs.Common.{rules}
use Rattle.def_paths.proofs.answers.variant_found.Goals as goal

pub returns-else-variant : goal.returns-else-variant
returns-else-variant c = search rules
