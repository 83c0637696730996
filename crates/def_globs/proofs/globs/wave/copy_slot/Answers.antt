use Rattle.std.proofs.Common.{rules}
use Rattle.def_globs.proofs.globs.wave.copy_slot.Goals as goal

pub returns-clause-done : goal.returns-clause-done
returns-clause-done g c = search rules
