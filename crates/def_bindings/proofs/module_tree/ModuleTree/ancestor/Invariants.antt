use Rattle.std.proofs.Common.{◌≡◌, length, [], slice_get, not}
use Rattle.std.specs.Prelude.{IfSome}
use Rattle.std.specs.List.{filter}
use Rattle.std.specs.Option.{option_map_or}
use Rattle.def_bindings.specs.ModuleTree.{chain_in, next_in}
use Rattle.def_ids.specs.Ids.{is_block_root}
use Rattle.def_bindings.proofs.module_tree.ModuleTree.ancestor.Given as goal

-- what is left of the chain, at what is left of n
abbrev pub invariant-loop-here : goal.invariant-loop-here
invariant-loop-here l =
    record {
      rest : slice_get (filter (λ m. not (is_block_root m)) (option_map_or (λ p. chain_in l.self p.at) l.here [])) l.left ≡ slice_get (filter (λ m. not (is_block_root m)) (chain_in l.self l.fn.start)) l.n;
      next : IfSome l.here (λ p. p.next ≡ next_in l.self p.at);
    }

abbrev pub decreases-loop-here : goal.decreases-loop-here
decreases-loop-here l = length (option_map_or (λ p. chain_in l.self p.at) l.here [])
