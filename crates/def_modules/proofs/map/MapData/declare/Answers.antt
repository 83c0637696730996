use Rattle.std.proofs.Common.{rules}
use Rattle.def_modules.specs.Scopes.{declared_in}
use Rattle.def_modules.proofs.MapsLemmas.{module_changed}
use Rattle.def_modules.proofs.map.MapData.declare.Goals as goal

pub returns-in-Some : goal.returns-in-Some
returns-in-Some c =
    module_changed c.declare.result c.args.self.now c.args.module c.in-Some.found.now c.declare.new.self (declared_in c.args.def) (search rules) c.in-Some.ensures.value c.declare.ensures
