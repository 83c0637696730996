use Rattle.std.proofs.Common.{rules}
use Rattle.def_modules.specs.Scopes.{marked_failed}
use Rattle.def_modules.proofs.MapsLemmas.{module_changed}
use Rattle.def_modules.proofs.map.MapData.mark_failed.Goals as goal

pub returns-in-Some : goal.returns-in-Some
returns-in-Some c =
    module_changed c.mark_failed.result c.args.self.now c.args.module c.in-Some.found.now c.mark_failed.new.self (marked_failed c.args.name) (search rules) c.in-Some.ensures.value c.mark_failed.ensures
