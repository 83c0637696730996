use Rattle.std.proofs.Common.{◌≡◌, drop}
use Rattle.def_modules.specs.Maps.{crate_state}
use Rattle.def_rules.specs.Crates.{after_attrs}
use Rattle.def_crates.proofs.crate_attrs.set_attrs.Given as goal

abbrev pub invariant-attrs : goal.invariant-attrs
invariant-attrs l = after_attrs (drop l.attr-index l.attrs) (crate_state l.krate) ≡ after_attrs l.attrs (crate_state l.initial.krate)
