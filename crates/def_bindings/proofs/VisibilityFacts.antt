-- Chains, homes and visibilities of a crate of three modules and a block in its second.
use Rattle.std.proofs.Common.{◌≡◌, ℕ, true, false, Some, None, List, [], ◌∷◌, refl}
use Rattle.std.specs.Prelude.{slice_get, not}
use Rattle.std.specs.List.{filter}
use Rattle.def_ids.specs.declared.ids.MapId.{MapId}
use Rattle.def_ids.specs.declared.ids.ModuleId.{ModuleId}
use Rattle.def_ids.specs.Ids.{is_block_root}
use Rattle.def_bindings.specs.declared.visibility.Visibility.TheVariants.{Module, PubCrate, Public}
use Rattle.def_bindings.specs.Order.{greater_of, lesser_of, rises_to}
use Rattle.def_bindings.specs.Tree.{chain_of, above_of, after_module, after_index, next_of, are_apart}
use Rattle.def_bindings.specs.Visibility.{is_at_most, home_of, is_visible_from, order_over}

abbrev own : MapId
own = record { krate = record { 0 = 0 }; block = None }

abbrev block : MapId
block = record { krate = record { 0 = 0 }; block = Some (record { 0 = 3 }) }

abbrev at : ℕ → ModuleId
at i = record { map = own; index = i }

abbrev in_block : ℕ → ModuleId
in_block i = record { map = block; index = i }

-- the root, a module in it, a module in that, and a second one in the root
abbrev crate_chain : ModuleId → List ModuleId
crate_chain m = chain_of own (None ∷ Some 0 ∷ Some 1 ∷ Some 0 ∷ []) [] m

-- a block with one module, within the second module of the crate
abbrev block_chain : ModuleId → List ModuleId
block_chain m = chain_of block (None ∷ Some 0 ∷ []) (at 1 ∷ at 0 ∷ []) m

chain_up : crate_chain (at 2) ≡ at 2 ∷ at 1 ∷ at 0 ∷ []
chain_up = refl

chain_of_stranger : crate_chain (in_block 0) ≡ in_block 0 ∷ []
chain_of_stranger = refl

chain_leaves_the_block : block_chain (in_block 1) ≡ in_block 1 ∷ in_block 0 ∷ at 1 ∷ at 0 ∷ []
chain_leaves_the_block = refl

chain_of_containing : block_chain (at 1) ≡ at 1 ∷ at 0 ∷ []
chain_of_containing = refl

chain_of_other : block_chain (at 3) ≡ at 3 ∷ []
chain_of_other = refl

-- what follows in a chain: the parent, past a block's root the first module that contains the block, and past that the next one
above_is_the_parent : above_of block (None ∷ Some 0 ∷ []) (at 1 ∷ at 0 ∷ []) (in_block 1) ≡ Some (in_block 0)
above_is_the_parent = refl

above_leaves_the_block : above_of block (None ∷ Some 0 ∷ []) (at 1 ∷ at 0 ∷ []) (in_block 0) ≡ Some (at 1)
above_leaves_the_block = refl

above_among_containing : above_of block (None ∷ Some 0 ∷ []) (at 1 ∷ at 0 ∷ []) (at 1) ≡ Some (at 0)
above_among_containing = refl

none_above_the_root : above_of own (None ∷ Some 0 ∷ []) [] (at 0) ≡ None
none_above_the_root = refl

-- nothing follows the last module of a list, nor one that is not in it
after_the_first : (after_module (at 1 ∷ at 0 ∷ []) (at 1) ≡ Some (at 0)) × (after_index (at 1 ∷ at 0 ∷ []) (at 1) ≡ 1)
after_the_first = (refl, refl)

after_the_last : (after_module (at 1 ∷ at 0 ∷ []) (at 0) ≡ None) × (after_index (at 1 ∷ at 0 ∷ []) (at 0) ≡ 2)
after_the_last = (refl, refl)

after_a_stranger : (after_module (at 1 ∷ at 0 ∷ []) (at 3) ≡ None) × (after_index (at 1 ∷ at 0 ∷ []) (at 3) ≡ 2)
after_a_stranger = (refl, refl)

-- above the map's own modules all those that contain the block are left, and above one of these what follows it
goes_on_from : (next_of block (None ∷ Some 0 ∷ []) (at 1 ∷ at 0 ∷ []) (in_block 1) ≡ 0) × (next_of block (None ∷ Some 0 ∷ []) (at 1 ∷ at 0 ∷ []) (at 1) ≡ 1)
goes_on_from = (refl, refl)

-- a block's root is at home in the module that contains the block, and alone in itself
home_of_block : home_of block_chain (in_block 0) ≡ at 1
home_of_block = refl

home_in_block : home_of block_chain (in_block 1) ≡ in_block 1
home_in_block = refl

home_of_lone_block : home_of (chain_of block (None ∷ []) []) (in_block 0) ≡ in_block 0
home_of_lone_block = refl

-- what is private in a block is seen from the module around it
seen_around_the_block : is_visible_from block_chain (at 1) (Module (in_block 0)) ≡ true
seen_around_the_block = refl

unseen_from_above : is_visible_from crate_chain (at 0) (Module (at 1)) ≡ false
unseen_from_above = refl

seen_from_below : is_visible_from crate_chain (at 2) (Module (at 1)) ≡ true
seen_from_below = refl

crate_is_seen : is_visible_from crate_chain (in_block 0) PubCrate ≡ true
crate_is_seen = refl

-- the crate lies below all and above every module
crate_below_public : is_at_most crate_chain PubCrate Public ≡ true
crate_below_public = refl

public_above_crate : is_at_most crate_chain Public PubCrate ≡ false
public_above_crate = refl

root_below_crate : is_at_most crate_chain PubCrate (Module (at 0)) ≡ false
root_below_crate = refl

-- the module above is greater; neighbours are unrelated
greater_above : greater_of (is_at_most crate_chain) (Module (at 2)) (Module (at 1)) ≡ Some (Module (at 1))
greater_above = refl

lesser_below : lesser_of (is_at_most crate_chain) (Module (at 1)) (Module (at 2)) ≡ Some (Module (at 2))
lesser_below = refl

neighbours_unrelated : greater_of (is_at_most crate_chain) (Module (at 2)) (Module (at 3)) ≡ None
neighbours_unrelated = refl

-- what is greater is a rise, and what is equal is none
rises_to_the_module_above : rises_to (order_over crate_chain) (Module (at 2)) (Module (at 1)) ≡ true
rises_to_the_module_above = refl

no_rise_to_itself : rises_to (order_over crate_chain) PubCrate PubCrate ≡ false
no_rise_to_itself = refl

-- entries of a path's supers skip the roots of blocks
second_ancestor : slice_get (filter (λ m. not (is_block_root m)) (block_chain (in_block 1))) 1 ≡ Some (at 1)
second_ancestor = refl

-- a block is refused within its own map or within one module twice
within_itself : are_apart block (at 1 ∷ in_block 0 ∷ []) ≡ false
within_itself = refl

within_one_twice : are_apart block (at 1 ∷ at 0 ∷ at 1 ∷ []) ≡ false
within_one_twice = refl

within_none : are_apart block [] ≡ true
within_none = refl
