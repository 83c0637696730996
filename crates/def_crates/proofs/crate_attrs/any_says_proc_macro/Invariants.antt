use Rattle.std.proofs.Common.{◌≡◌, drop}
use Rattle.std.specs.List.{list_any}
use Rattle.def_rules.specs.Crates.{says_proc_macro}
use Rattle.def_crates.proofs.crate_attrs.any_says_proc_macro.Given as goal

abbrev pub invariant-attrs : goal.invariant-attrs
invariant-attrs l = list_any says_proc_macro l.attrs ≡ list_any says_proc_macro (drop l.attr-index l.attrs)
