use Rattle.std.proofs.Common.{◌≡◌, drop}
use Rattle.std.specs.List.{list_any}
use Rattle.def_rules.specs.Macros.{is_whole}
use Rattle.def_macros.proofs.macro_use.any_whole.Given as goal

abbrev pub invariant-attrs : goal.invariant-attrs
invariant-attrs l = list_any is_whole l.attrs ≡ list_any is_whole (drop l.attr-index l.attrs)
