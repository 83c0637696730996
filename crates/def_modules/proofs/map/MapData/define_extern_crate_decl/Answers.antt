use Rattle.std.proofs.Common.{rules}
use Rattle.def_modules.specs.Scopes.{with_extern_crate}
use Rattle.def_modules.proofs.MapsLemmas.{module_changed}
use Rattle.def_modules.proofs.map.MapData.define_extern_crate_decl.Goals as goal

pub returns-in-Some : goal.returns-in-Some
returns-in-Some c =
    module_changed c.define_extern_crate_decl.result c.args.self.now c.args.module c.in-Some.found.now c.define_extern_crate_decl.new.self (with_extern_crate c.args.id) (search rules) c.in-Some.ensures.value c.define_extern_crate_decl.ensures
