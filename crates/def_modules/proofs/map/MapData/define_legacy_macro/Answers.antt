use Rattle.std.proofs.Common.{rules}
use Rattle.def_modules.specs.Scopes.{with_textual}
use Rattle.def_modules.proofs.MapsLemmas.{module_changed}
use Rattle.def_modules.proofs.map.MapData.define_legacy_macro.Goals as goal

pub returns-in-Some : goal.returns-in-Some
returns-in-Some c =
    module_changed c.define_legacy_macro.result c.args.self.now c.args.module c.in-Some.found.now c.define_legacy_macro.new.self (with_textual c.args.name c.args.macro_id) (search rules) c.in-Some.ensures.value c.define_legacy_macro.ensures
