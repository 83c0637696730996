use Rattle.std.proofs.Common.{rules}
use Rattle.def_modules.specs.Scopes.{with_extern_block}
use Rattle.def_modules.proofs.MapsLemmas.{module_changed}
use Rattle.def_modules.proofs.map.MapData.define_extern_block.Goals as goal

pub returns-in-Some : goal.returns-in-Some
returns-in-Some c =
    module_changed c.define_extern_block.result c.args.self.now c.args.module c.in-Some.found.now c.define_extern_block.new.self (with_extern_block c.args.id) (search rules) c.in-Some.ensures.value c.define_extern_block.ensures
