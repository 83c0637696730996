use Rattle.std.proofs.Common.{◌≡◌, ℕ, ◌<◌, [], Some, slice_get}
use Rattle.def_modules.proofs.fresh.are_lists_empty.Given as goal

abbrev pub invariant-loop-i : goal.invariant-loop-i
invariant-loop-i g l = (j : ℕ) → j < l.i → (e : _) → slice_get l.lists.entries j ≡ Some e → e.1 ≡ []
