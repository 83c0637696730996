use Rattle.std.proofs.Common.{refl}
use Rattle.def_modules.proofs.seed.new_crate.Goals as goal

pub returns : goal.returns
returns c =
    rw (c.in_ok-registered_tools.ensures, c.new.ensures.empty, c.new-2.ensures.empty, c.new-3.ensures.empty, c.new-4.ensures.empty) refl
