use Rattle.std.proofs.Common.{rules}
use Rattle.def_globs.proofs.globs.wave.put_entry.Goals as goal

pub returns-then-branch-clause-done : goal.returns-then-branch-clause-done
returns-then-branch-clause-done g c = search rules

pub returns-clause-done : goal.returns-clause-done
returns-clause-done g c = search rules
