-- The chains of a tree.
use Rattle.std.specs.Prelude.{List, ℕ, ◌≤◌, ◌+◌, suc, length}
use Rattle.def_ids.specs.declared.ids.ModuleId.{ModuleId}
use Rattle.def_bindings.specs.declared.module_tree.ModuleTree.{ModuleTree}
use Rattle.def_ids.specs.Ids.{is_same_module}
use Rattle.def_bindings.specs.Chains.{AreChains}
use Rattle.def_bindings.specs.Tree.{chain_of, next_of}
use Rattle.def_bindings.specs.TreeLaws.{are_chains, length-chain_of}

-- the chain of a module in this tree
abbrev pub chain_in : ModuleTree → ModuleId → List ModuleId
chain_in tree = chain_of tree.map tree.parents tree.containing

-- where the modules that contain the block go on after this one
abbrev pub next_in : ModuleTree → ModuleId → ℕ
next_in tree = next_of tree.map tree.parents tree.containing

pub are_chains_in : (tree : ModuleTree) → AreChains is_same_module (chain_in tree)
are_chains_in tree = are_chains tree.map tree.parents tree.containing tree.lower tree.apart

pub length-chain_in : (tree : ModuleTree) (start : ModuleId) → length (chain_in tree start) ≤ suc (length tree.parents + length tree.containing)
length-chain_in tree = length-chain_of tree.map tree.parents tree.containing tree.lower tree.apart
