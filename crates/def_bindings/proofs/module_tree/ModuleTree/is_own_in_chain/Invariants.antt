use Rattle.std.proofs.Common.{◌≡◌, ◌<◌, length}
use Rattle.std.specs.List.{list_any}
use Rattle.def_bindings.specs.ModuleTree.{chain_in}
use Rattle.def_bindings.specs.Tree.{module_of}
use Rattle.def_ids.specs.Ids.{is_same_module}
use Rattle.def_bindings.proofs.module_tree.ModuleTree.is_own_in_chain.Given as goal

-- the chain from here on decides
abbrev pub invariant-up : goal.invariant-up
invariant-up l =
    record {
      within : l.here < length l.self.parents;
      rest : list_any (is_same_module (module_of l.self.map l.target)) (chain_in l.self (module_of l.self.map l.here)) ≡ list_any (is_same_module (module_of l.self.map l.target)) (chain_in l.self (module_of l.self.map l.fn.start));
    }

abbrev pub decreases-up : goal.decreases-up
decreases-up l = l.here
