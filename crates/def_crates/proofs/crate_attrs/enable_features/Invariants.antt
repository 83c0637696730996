use Rattle.std.proofs.Common.{◌≡◌, drop}
use Rattle.def_modules.specs.Maps.{crate_state}
use Rattle.def_rules.specs.Crates.{with_features}
use Rattle.def_crates.proofs.crate_attrs.enable_features.Given as goal

abbrev pub invariant-listed : goal.invariant-listed
invariant-listed l = with_features (drop l.entry-index l.listed) (crate_state l.krate) ≡ with_features l.listed (crate_state l.initial.krate)
