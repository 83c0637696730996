use Rattle.std.proofs.Common.{◌≡◌, ◌++◌, drop}
use Rattle.std.specs.List.{flat_map}
use Rattle.def_rules.specs.Macros.{listed_macros}
use Rattle.def_macros.proofs.macro_use.push_listed.Given as goal

-- the macros so far and those to come are those of all attributes
abbrev pub invariant-attrs : goal.invariant-attrs
invariant-attrs g l =
    let listed = listed_macros (g.T.BindingTable.content l.table) l.at in
    l.taken.items ++ flat_map listed (drop l.attr-index l.attrs) ≡ l.initial.taken.items ++ flat_map listed l.attrs
