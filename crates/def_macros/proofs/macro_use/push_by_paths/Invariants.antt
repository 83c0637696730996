use Rattle.std.proofs.Common.{◌≡◌, ◌++◌, drop}
use Rattle.std.specs.List.{flat_map}
use Rattle.def_rules.specs.Macros.{macro_by}
use Rattle.def_macros.proofs.macro_use.push_by_paths.Given as goal

-- the macros so far and those to come are those of all paths
abbrev pub invariant-paths : goal.invariant-paths
invariant-paths g l =
    let named = macro_by (g.T.BindingTable.content l.table) l.at in
    l.taken.items ++ flat_map named (drop l.listed-index l.paths) ≡ l.initial.taken.items ++ flat_map named l.paths
