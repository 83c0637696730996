use Rattle.std.proofs.Common.{rules}
use Rattle.def_modules.specs.Scopes.{with_derive_impl}
use Rattle.def_modules.proofs.MapsLemmas.{module_changed}
use Rattle.def_modules.proofs.map.MapData.define_builtin_derive_impl.Goals as goal

pub returns-in-Some : goal.returns-in-Some
returns-in-Some c =
    module_changed c.define_builtin_derive_impl.result c.args.self.now c.args.module c.in-Some.found.now c.define_builtin_derive_impl.new.self (with_derive_impl c.args.id) (search rules) c.in-Some.ensures.value c.define_builtin_derive_impl.ensures
