-- The order of visibilities over chains of modules, and from where a visibility is seen.
use Rattle.std.specs.Prelude.{Bool, true, false, List}
use Rattle.std.specs.List.{list_any}
use Rattle.def_ids.specs.declared.ids.ModuleId.{ModuleId}
use Rattle.def_bindings.specs.declared.visibility.Visibility.{Visibility}
use Rattle.def_bindings.specs.declared.visibility.Visibility.TheVariants.{Module, PubCrate, Public}
use Rattle.def_ids.specs.Ids.{is_same_module, is_block_root}
use Rattle.def_bindings.specs.Chains.{first_no_root}
use Rattle.def_bindings.specs.Order.{Order}

-- a module is at most those of its chain; every module is below the crate, and the crate below all
abbrev pub is_at_most : (ModuleId → List ModuleId) → Visibility → Visibility → Bool
is_at_most chain (Module a) (Module b) = list_any (is_same_module b) (chain a)
is_at_most chain (Module a) PubCrate = true
is_at_most chain (Module a) Public = true
is_at_most chain PubCrate (Module b) = false
is_at_most chain PubCrate PubCrate = true
is_at_most chain PubCrate Public = true
is_at_most chain Public (Module b) = false
is_at_most chain Public PubCrate = false
is_at_most chain Public Public = true

-- the first module of the chain that is no block's root, or the module itself
abbrev pub home_of : (ModuleId → List ModuleId) → ModuleId → ModuleId
home_of chain m = first_no_root is_block_root (chain m) m

-- a module's visibility is seen from below the module's home
abbrev pub is_visible_from : (ModuleId → List ModuleId) → ModuleId → Visibility → Bool
is_visible_from chain place (Module m) = list_any (is_same_module (home_of chain m)) (chain place)
is_visible_from chain place PubCrate = true
is_visible_from chain place Public = true

-- the order of visibilities over these chains
abbrev pub order_over : (ModuleId → List ModuleId) → Order Visibility
order_over chain = record { at_most = is_at_most chain; can_see = is_visible_from chain }
