use Rattle.std.proofs.Common.{◌≡◌, length}
use Rattle.item_tree.specs.TokenTrees.{elements}
use Rattle.def_rules.specs.Macros.{holds_word}
use Rattle.def_macros.proofs.flags.holds.Given as goal

abbrev pub invariant-elements : goal.invariant-elements
invariant-elements l = holds_word l.name l.elements ≡ holds_word l.name l.initial.elements

abbrev pub decreases-elements : goal.decreases-elements
decreases-elements l = length (elements l.elements)
