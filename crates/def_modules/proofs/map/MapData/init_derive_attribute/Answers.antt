use Rattle.std.proofs.Common.{rules}
use Rattle.def_modules.specs.ScopeMaps.{derive_state}
use Rattle.def_modules.specs.Scopes.{with_derive}
use Rattle.def_modules.proofs.MapsLemmas.{module_changed}
use Rattle.def_modules.proofs.map.MapData.init_derive_attribute.Goals as goal

pub returns-in-Some : goal.returns-in-Some
returns-in-Some c =
    module_changed c.init_derive_attribute.result c.args.self.now c.args.module c.in-Some.found.now c.init_derive_attribute.new.self (with_derive c.args.position c.args.attr (derive_state c.args.derive)) (search rules) c.in-Some.ensures.value c.init_derive_attribute.ensures
