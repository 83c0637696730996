use Rattle.std.proofs.Common.{refl}
use Rattle.def_modules.proofs.seed.rooted.Goals as goal

pub returns : goal.returns
returns c =
    rw (c.requires.parents, c.requires.modules) (rw (c.new.ensures.empty, c.new-2.ensures.empty, c.new-3.ensures.empty) refl)
