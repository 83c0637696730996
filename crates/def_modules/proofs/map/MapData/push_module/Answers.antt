use Rattle.std.proofs.lemmas.Grind.{common_steps}
use Rattle.std.proofs.Common.{arith}
use Rattle.def_modules.proofs.map.MapData.push_module.Goals as goal

pub returns-clause-index : goal.returns-clause-index
returns-clause-index c = grind (arith, common_steps)
