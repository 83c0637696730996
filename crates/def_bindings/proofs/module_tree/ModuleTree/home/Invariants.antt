use Rattle.std.proofs.Common.{◌≡◌, length, []}
use Rattle.std.specs.Prelude.{IfSome}
use Rattle.std.specs.Option.{option_map_or}
use Rattle.def_bindings.specs.ModuleTree.{chain_in, next_in}
use Rattle.def_ids.specs.Ids.{is_block_root}
use Rattle.def_bindings.specs.Chains.{first_no_root}
use Rattle.def_bindings.proofs.module_tree.ModuleTree.home.Given as goal

-- what is left of the chain decides
abbrev pub invariant-loop-here : goal.invariant-loop-here
invariant-loop-here l =
    record {
      rest : first_no_root is_block_root (option_map_or (λ p. chain_in l.self p.at) l.here []) l.start ≡ first_no_root is_block_root (chain_in l.self l.start) l.start;
      next : IfSome l.here (λ p. p.next ≡ next_in l.self p.at);
    }

abbrev pub decreases-loop-here : goal.decreases-loop-here
decreases-loop-here l = length (option_map_or (λ p. chain_in l.self p.at) l.here [])
