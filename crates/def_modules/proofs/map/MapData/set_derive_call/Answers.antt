use Rattle.std.proofs.Common.{Ok, rules}
use Rattle.def_modules.specs.Scopes.{called_at}
use Rattle.def_modules.proofs.MapsLemmas.{module_changed, module_missing}
use Rattle.def_modules.proofs.map.MapData.set_derive_call.Goals as goal

pub returns-in-Some : goal.returns-in-Some
returns-in-Some c =
    module_changed {T = Unit {0}} {E = Unit {0}} (Ok tt) c.args.self.now c.args.module c.in-Some.found.now c.set_derive_call.new.self (called_at c.args.position c.args.attr c.args.pos c.args.call) (search rules) c.in-Some.ensures.value c.set_derive_call.ensures

pub returns-in_default : goal.returns-in_default
returns-in_default c = module_missing c.args.self.now c.args.module (called_at c.args.position c.args.attr c.args.pos c.args.call) (search rules)
