-- Worked rows of the maps that blocks begin with.
use Rattle.std.proofs.Common.{◌≡◌, [], ◌∷◌, None, refl}
use Rattle.tree_ids.specs.declared.name.Name.{Name}
use Rattle.def_ids.specs.declared.edition.Edition.TheVariants.{Edition2021}
use Rattle.def_bindings.specs.declared.visibility.Visibility.TheVariants.{Public}
use Rattle.def_modules.specs.declared.module_data.ModuleOrigin.TheVariants.{Block}
use Rattle.def_modules.specs.Scopes.{empty_module}
use Rattle.def_modules.specs.declared.block.BlockData.{BlockData}
use Rattle.def_modules.specs.Seeds.{block_state}

-- it has one root, made by the block, and the edition that is asked for
root_of_info : (b : BlockData) → ((block_state Edition2021 b).modules ≡ empty_module None Block Public ∷ []) × ((block_state Edition2021 b).krate.edition ≡ Edition2021)
root_of_info b = (refl, refl)

-- it keeps the crate's limit and tools, and neither its prelude nor a macro that an extern crate brought
crate_of_info : (b : BlockData) (name : Name)
    → ((block_state Edition2021 b).krate.recursion_limit ≡ b.data.recursion_limit) × ((block_state Edition2021 b).krate.tools ≡ b.data.registered_tools)
    × ((block_state Edition2021 b).prelude ≡ None) × ((block_state Edition2021 b).macro_use name ≡ None)
crate_of_info b name = (refl, refl, refl, refl)
