-- Worked rows of modules, maps and tests of equality.
use Rattle.std.specs.Prelude.{◌≡◌, ℕ, true, false, refl, Some, None}
use Rattle.def_ids.specs.Equality.{def_eq, glob_eq, macro_eq}
use Rattle.def_ids.specs.Ids.{crate_root, is_block_root, is_same_module}
use Rattle.def_ids.specs.declared.ids.Def.TheVariants as def
use Rattle.def_ids.specs.declared.ids.MacroId.TheVariants.{MacroRules, Macro2, ProcMacro}
use Rattle.def_ids.specs.declared.ids.ModuleId.{ModuleId}

-- a module of a block of crate 0
abbrev in_block : ℕ → ℕ → ModuleId
in_block block index = record { map = record { krate = record { 0 = 0 }; block = Some (record { 0 = block }) }; index = index }

-- a module of a crate's own map
abbrev in_crate : ℕ → ℕ → ModuleId
in_crate krate index = record { map = record { krate = record { 0 = krate }; block = None }; index = index }

pub root_of_crate : crate_root (record { 0 = 3 }) ≡ in_crate 3 0
root_of_crate = refl

pub block_root : is_block_root (in_block 7 0) ≡ true
block_root = refl

-- a module inside a block is no root
pub inside_block : is_block_root (in_block 7 1) ≡ false
inside_block = refl

-- a crate's root is no block's
pub crate_root_is_no_block_root : is_block_root (in_crate 0 0) ≡ false
crate_root_is_no_block_root = refl

pub same_module : is_same_module (in_block 7 1) (in_block 7 1) ≡ true
same_module = refl

-- modules of two blocks, of two crates, of a block and a crate, and of two places
pub other_modules : (is_same_module (in_block 7 1) (in_block 8 1) ≡ false) × (is_same_module (in_crate 0 1) (in_crate 1 1) ≡ false) × (is_same_module (in_block 7 1) (in_crate 0 1) ≡ false) × (is_same_module (in_crate 0 1) (in_crate 0 2) ≡ false)
other_modules = (refl, refl, refl, refl)

-- one number of two kinds names two things
pub kinds_differ : (def_eq (def.Struct (record { 0 = 4 })) (def.Union (record { 0 = 4 })) ≡ false) × (macro_eq (MacroRules (record { 0 = 4 })) (Macro2 (record { 0 = 4 })) ≡ false)
kinds_differ = (refl, refl)

-- one number of one kind names one thing
pub numbers_agree : (def_eq (def.Struct (record { 0 = 4 })) (def.Struct (record { 0 = 4 })) ≡ true) × (def_eq (def.Struct (record { 0 = 4 })) (def.Struct (record { 0 = 5 })) ≡ false)
numbers_agree = (refl, refl)

-- modules and macros are compared by their own tests, and builtin types by number
pub parts_compared : (def_eq (def.Module (in_block 7 1)) (def.Module (in_block 8 1)) ≡ false) × (def_eq (def.Macro (ProcMacro (record { 0 = 4 }))) (def.Macro (ProcMacro (record { 0 = 4 }))) ≡ true) × (def_eq (def.Macro (ProcMacro (record { 0 = 4 }))) (def.Macro (Macro2 (record { 0 = 4 }))) ≡ false) × (def_eq (def.Builtin 4) (def.Builtin 5) ≡ false)
parts_compared = (refl, refl, refl, refl)

-- two globs of one `use` item
pub other_glob : glob_eq (record { use_id = record { 0 = 1 }; idx = 0 }) (record { use_id = record { 0 = 1 }; idx = 1 }) ≡ false
other_glob = refl

pub same_glob : glob_eq (record { use_id = record { 0 = 1 }; idx = 2 }) (record { use_id = record { 0 = 1 }; idx = 2 }) ≡ true
same_glob = refl
