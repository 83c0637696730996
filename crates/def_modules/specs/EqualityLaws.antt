-- The derived tests of equality are those of the definitions.
use Rattle.std.proofs.Common.{◌≡◌, Bool, ◌==◌, ◌&&◌, refl, ap}
use Rattle.tree_ids.specs.declared.ids.HirFileId.{HirFileId}
use Rattle.tree_ids.specs.declared.ids.HirFileId.TheVariants.{File, Macro}
use Rattle.tree_ids.specs.contracts.ids.HirFileIdPartialEq.TheImpl as files
use Rattle.def_modules.specs.MapState.{Position}
use Rattle.def_ids.specs.declared.ids.MacroId.{MacroId}
use Rattle.def_ids.specs.declared.ids.MacroId.TheVariants.{MacroRules, Macro2, ProcMacro}
use Rattle.def_ids.specs.contracts.ids.MacroIdPartialEq.TheImpl as macros
use Rattle.def_ids.specs.Equality.{macro_eq}
use Rattle.def_modules.specs.declared.module_data.DeriveKey.{DeriveKey}
use Rattle.def_modules.specs.declared.module_data.Invocation.{Invocation}
use Rattle.def_modules.specs.contracts.module_data.DeriveKeyPartialEq.TheImpl as derive_keys
use Rattle.def_modules.specs.contracts.module_data.InvocationPartialEq.TheImpl as invocations
use Rattle.def_modules.specs.Equality.{file_eq, position_eq, derive_key_eq, invocation_eq}

file-same : (a b : HirFileId) → files.ghosts.eq a b ≡ file_eq a b
file-same (File a) (File b) = refl
file-same (File a) (Macro b) = refl
file-same (Macro a) (File b) = refl
file-same (Macro a) (Macro b) = refl

macro-same : (a b : MacroId) → macros.ghosts.eq a b ≡ macro_eq a b
macro-same (MacroRules a) (MacroRules b) = refl
macro-same (MacroRules a) (Macro2 b) = refl
macro-same (MacroRules a) (ProcMacro b) = refl
macro-same (Macro2 a) (MacroRules b) = refl
macro-same (Macro2 a) (Macro2 b) = refl
macro-same (Macro2 a) (ProcMacro b) = refl
macro-same (ProcMacro a) (MacroRules b) = refl
macro-same (ProcMacro a) (Macro2 b) = refl
macro-same (ProcMacro a) (ProcMacro b) = refl

-- derive attributes
pub derive_keys_same : derive_keys.ghosts.eq ≡ derive_key_eq
derive_keys_same = λ i a b. at a b i
  where
    at : (a b : DeriveKey) → derive_keys.ghosts.eq a b ≡ derive_key_eq a b
    at a b = ap (λ e. (e && (a.position.value.0 == b.position.value.0)) && (a.attr.0 == b.attr.0)) (file-same a.position.file b.position.file)

-- calls at items
pub invocations_same : invocations.ghosts.eq ≡ invocation_eq
invocations_same = λ i a b. at a b i
  where
    at : (a b : Invocation) → invocations.ghosts.eq a b ≡ invocation_eq a b
    at a b = ap (λ e. (e && (a.position.value.0 == b.position.value.0)) && (a.call.0 == b.call.0)) (file-same a.position.file b.position.file)

-- macros
pub macros_same : macros.ghosts.eq ≡ macro_eq
macros_same = λ i a b. macro-same a b i

-- the derived test of positions
abbrev pub derived_position_eq : Position → Position → Bool
derived_position_eq a b = files.ghosts.eq a.file b.file && (a.value.0 == b.value.0)

-- positions
pub positions_same : derived_position_eq ≡ position_eq
positions_same = λ i a b. at a b i
  where
    at : (a b : Position) → derived_position_eq a b ≡ position_eq a b
    at a b = ap (λ e. e && (a.value.0 == b.value.0)) (file-same a.file b.file)
