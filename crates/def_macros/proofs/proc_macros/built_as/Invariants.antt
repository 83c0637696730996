use Rattle.std.proofs.Common.{◌≡◌, drop}
use Rattle.def_rules.specs.ProcMacros.{built_as}
use Rattle.def_macros.proofs.proc_macros.built_as.Given as goal

-- none of those passed has the name
abbrev pub invariant-built : goal.invariant-built
invariant-built l = built_as l.name (drop l.entry-index l.built) ≡ built_as l.name l.built
