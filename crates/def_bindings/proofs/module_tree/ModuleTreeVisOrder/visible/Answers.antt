use Rattle.std.proofs.Common.{rules}
use Rattle.def_bindings.proofs.module_tree.ModuleTreeVisOrder.visible.Goals as goal

pub returns-in-Module : goal.returns-in-Module
returns-in-Module c = search rules
