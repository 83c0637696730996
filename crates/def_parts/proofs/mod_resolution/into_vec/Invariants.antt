use Rattle.std.proofs.Common.{◌≡◌, ◌++◌, length}
use Rattle.def_parts.proofs.mod_resolution.into_vec.Given as goal

-- those that were moved, and those that are to come, are all
abbrev pub invariant-moving : goal.invariant-moving
invariant-moving l = l.copy.items ++ l.files.items ≡ l.fn.files.items

abbrev pub decreases-moving : goal.decreases-moving
decreases-moving l = length l.files.items
