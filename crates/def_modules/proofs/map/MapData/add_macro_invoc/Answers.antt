use Rattle.std.proofs.Common.{rules}
use Rattle.def_modules.specs.Scopes.{with_invocation}
use Rattle.def_modules.proofs.MapsLemmas.{module_changed}
use Rattle.def_modules.proofs.map.MapData.add_macro_invoc.Goals as goal

pub returns-in-Some : goal.returns-in-Some
returns-in-Some c =
    module_changed c.add_macro_invoc.result c.args.self.now c.args.module c.in-Some.found.now c.add_macro_invoc.new.self (with_invocation c.args.position c.args.call) (search rules) c.in-Some.ensures.value c.add_macro_invoc.ensures
