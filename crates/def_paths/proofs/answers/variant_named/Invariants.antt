use Rattle.std.proofs.Common.{◌≡◌, drop}
use Rattle.def_paths.specs.Answers.{variant_named}
use Rattle.def_paths.proofs.answers.variant_named.Given as goal

-- the variant is not among those that were passed
abbrev pub invariant-loop-variant : goal.invariant-loop-variant
invariant-loop-variant l = variant_named (drop l.variant-index l.variants) l.name ≡ variant_named l.variants l.name
