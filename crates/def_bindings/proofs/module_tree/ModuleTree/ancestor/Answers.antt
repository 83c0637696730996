use Rattle.std.proofs.Common.{rules}
use Rattle.def_bindings.proofs.module_tree.ModuleTree.ancestor.Goals as goal

pub overflow_sub-left : goal.overflow_sub-left
overflow_sub-left c = search rules

pub loop-here-preserved-then-not-is_block_root : goal.loop-here-preserved-then-not-is_block_root
loop-here-preserved-then-not-is_block_root c = search rules
