use Rattle.std.proofs.Common.{◌≡◌, ◌++◌, ◌-◌, drop, length}
use Rattle.std.specs.List.{flat_map}
use Rattle.def_rules.specs.Macros.{macro_in}
use Rattle.def_macros.proofs.macro_use.push_all.Given as goal

-- the macros so far and those to come are those of all names
abbrev pub invariant-names : goal.invariant-names
invariant-names g l =
    let content = g.T.BindingTable.content l.table in
    l.taken.items ++ flat_map (macro_in content l.at) (drop l.index (content.names l.at)) ≡ l.initial.taken.items ++ flat_map (macro_in content l.at) (content.names l.at)

abbrev pub decreases-names : goal.decreases-names
decreases-names g l = length ((g.T.BindingTable.content l.table).names l.at) - l.index
