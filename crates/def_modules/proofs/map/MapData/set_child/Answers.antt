use Rattle.std.proofs.Common.{rules}
use Rattle.def_modules.specs.Scopes.{with_child}
use Rattle.def_modules.proofs.MapsLemmas.{module_changed}
use Rattle.def_modules.proofs.map.MapData.set_child.Goals as goal

pub returns-in-Some : goal.returns-in-Some
returns-in-Some c =
    module_changed c.set_child.result c.args.self.now c.args.module c.in-Some.found.now c.set_child.new.self (with_child c.args.name c.args.child) (search rules) c.in-Some.ensures.value c.set_child.ensures
