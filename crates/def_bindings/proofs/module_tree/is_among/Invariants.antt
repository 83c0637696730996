use Rattle.std.proofs.Common.{◌≡◌, drop}
use Rattle.std.specs.List.{list_any}
use Rattle.def_ids.specs.Ids.{is_same_module}
use Rattle.def_bindings.proofs.module_tree.is_among.Given as goal

-- those that are left decide
abbrev pub invariant-loop-other : goal.invariant-loop-other
invariant-loop-other l = list_any (is_same_module l.place) (drop l.other-index l.others) ≡ list_any (is_same_module l.place) l.others
