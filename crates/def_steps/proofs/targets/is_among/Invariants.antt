use Rattle.std.proofs.Common.{◌≡◌, drop}
use Rattle.def_rules.specs.Globs.{is_among}
use Rattle.def_steps.proofs.targets.is_among.Given as goal

-- the definition is not among those passed
abbrev pub invariant-defs : goal.invariant-defs
invariant-defs l = is_among l.def (drop l.other-index l.defs) ≡ is_among l.def l.defs
