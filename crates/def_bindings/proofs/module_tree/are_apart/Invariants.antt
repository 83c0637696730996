use Rattle.std.proofs.Common.{◌≡◌, drop}
use Rattle.def_bindings.specs.Tree.{are_apart}
use Rattle.def_bindings.proofs.module_tree.are_apart.Given as goal

-- those that are left decide
abbrev pub invariant-loop-i : goal.invariant-loop-i
invariant-loop-i l = are_apart l.own (drop l.i l.containing) ≡ are_apart l.own l.containing
