use Rattle.std.proofs.Common.{rules}
use Rattle.def_modules.proofs.MapsLemmas.{module_same}
use Rattle.def_modules.proofs.map.MapData.expect_items.Goals as goal

pub returns-in-Some : goal.returns-in-Some
returns-in-Some c = module_same c.args.self.now c.args.module c.in-Some.found.now c.expect_items.new.self (search rules) c.in-Some.ensures.value c.expect_items.ensures
