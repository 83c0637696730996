use Rattle.std.proofs.Common.{rules}
use Rattle.def_bindings.proofs.module_tree.ModuleTree.is_in_chain.Goals as goal

pub returns-then-eq-2 : goal.returns-then-eq-2
returns-then-eq-2 c = search rules

pub loop-here-preserved : goal.loop-here-preserved
loop-here-preserved c = search rules
