use Rattle.std.proofs.Common.{rules}
use Rattle.def_modules.specs.Scopes.{with_unnamed_const}
use Rattle.def_modules.proofs.MapsLemmas.{module_changed}
use Rattle.def_modules.proofs.map.MapData.define_unnamed_const.Goals as goal

pub returns-in-Some : goal.returns-in-Some
returns-in-Some c =
    module_changed c.define_unnamed_const.result c.args.self.now c.args.module c.in-Some.found.now c.define_unnamed_const.new.self (with_unnamed_const c.args.id) (search rules) c.in-Some.ensures.value c.define_unnamed_const.ensures
