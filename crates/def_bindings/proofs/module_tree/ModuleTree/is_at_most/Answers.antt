use Rattle.std.proofs.Common.{rules}
use Rattle.def_bindings.proofs.module_tree.ModuleTree.is_at_most.Goals as goal

pub returns-in-Public-default : goal.returns-in-Public-default
returns-in-Public-default c = search rules

pub returns-in-Public-default-2 : goal.returns-in-Public-default-2
returns-in-Public-default-2 c = search rules
