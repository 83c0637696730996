use Rattle.std.proofs.Common.{◌≡◌, ◌++◌, length}
use Rattle.item_tree.specs.TokenTrees.{elements, idents}
use Rattle.def_parts.proofs.proc_macro.readers.idents.Given as goal

abbrev pub invariant-loop-element : goal.invariant-loop-element
invariant-loop-element l = l.names.items ++ idents l.trees ≡ idents l.initial.trees

abbrev pub decreases-loop-element : goal.decreases-loop-element
decreases-loop-element l = length (elements l.trees)
