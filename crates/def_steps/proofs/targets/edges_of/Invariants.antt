use Rattle.std.proofs.Common.{◌≡◌, ◌++◌, ◌-◌, drop, length, map}
use Rattle.def_tables.specs.NumberedTable.{all_edges}
use Rattle.def_steps.specs.Shown.{shown_edge}
use Rattle.def_steps.proofs.targets.edges_of.Given as goal

-- the edges so far and those to come are all
abbrev pub invariant-edges : goal.invariant-edges
invariant-edges l = l.edges.items ++ map shown_edge (drop l.number (all_edges l.table)) ≡ map shown_edge (all_edges l.table)

abbrev pub decreases-edges : goal.decreases-edges
decreases-edges l = length (all_edges l.table) - l.number
