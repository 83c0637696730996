use Rattle.std.proofs.Common.{◌≡◌, length}
use Rattle.std.specs.List.{list_any}
use Rattle.item_tree.specs.KnownNames.{local_inner_macros_name}
use Rattle.def_rules.specs.Macros.{holds_word}
use Rattle.def_macros.proofs.flags.is_local_inner.Given as goal

abbrev pub invariant-exports : goal.invariant-exports
invariant-exports l = list_any (holds_word local_inner_macros_name) l.exports ≡ list_any (holds_word local_inner_macros_name) l.initial.exports

abbrev pub decreases-exports : goal.decreases-exports
decreases-exports l = length l.exports
