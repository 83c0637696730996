-- Vectors that are written out, for what a row answers in one.
use Rattle.std.proofs.Common.{◌<◌, ◌^◌, List, length, Vec, [], false, lit<, refl, le_refl}
use Rattle.std.specs.declared.alloc.Global.{Global}
use denote.RawPtr.{null_ptr}
use Rattle.def_rules.specs.declared.outcome.Outcome.{Outcome}

-- what allocates
abbrev pub global : Global
global = record { memory = record { seal = tt } }

-- a vector of these items; where its block lies says nothing of them
abbrev pub vec_of : {X : Type 0} (xs : List X) → length xs < 2 ^ 63 → Vec X Global
vec_of xs small = record { ptr = null_ptr; len = length xs; cap = length xs; alloc = global; items = xs; ok = (refl, le_refl (length xs)); small = small }

-- nothing is left over, and no glob was recorded
abbrev pub nothing_left : Outcome
nothing_left = record { limit_met = false; imports = vec_of [] (lit< tt); macros = vec_of [] (lit< tt); edges = vec_of [] (lit< tt); targets = vec_of [] (lit< tt) }
