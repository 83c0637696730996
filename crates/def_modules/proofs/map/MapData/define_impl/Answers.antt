use Rattle.std.proofs.Common.{rules}
use Rattle.def_modules.specs.Scopes.{with_impl}
use Rattle.def_modules.proofs.MapsLemmas.{module_changed}
use Rattle.def_modules.proofs.map.MapData.define_impl.Goals as goal

pub returns-in-Some : goal.returns-in-Some
returns-in-Some c =
    module_changed c.define_impl.result c.args.self.now c.args.module c.in-Some.found.now c.define_impl.new.self (with_impl c.args.id c.args.is_trait_impl) (search rules) c.in-Some.ensures.value c.define_impl.ensures
