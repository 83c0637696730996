-- Each known name is the place of its text, in the definitions and in the code.
use Rattle.std.specs.Prelude.{◌≡◌, Some, List, ℕ, codes, slice_get, refl}
use Rattle.tree_ids.specs.declared.name.Name.{Name}
use Rattle.item_tree.specs.declared.sym.TheConstants.{SELF, STD, CORE, PRELUDE, RUST_2015, RUST_2018, RUST_2021, RUST_2024, RECURSION_LIMIT, CRATE_TYPE, NO_CORE, NO_STD, RUSTC_COHERENCE_IS_CORE, FEATURE, REGISTER_TOOL, PATH, MACRO_USE, PRELUDE_IMPORT, MACRO_EXPORT, LOCAL_INNER_MACROS, RUSTC_BUILTIN_MACRO, ALLOW_INTERNAL_UNSAFE, PROC_MACRO, PROC_MACRO_ATTRIBUTE, PROC_MACRO_DERIVE, ATTRIBUTES, TEST, CLIPPY, RUSTFMT, DIAGNOSTIC, MIRI, RUST_ANALYZER}
use Rattle.item_tree.specs.KnownNames.{self_name, std_name, core_name, prelude_name, rust_2015_name, rust_2018_name, rust_2021_name, rust_2024_name, recursion_limit_name, crate_type_name, no_core_name, no_std_name, rustc_coherence_is_core_name, feature_name, register_tool_name, path_name, macro_use_name, prelude_import_name, macro_export_name, local_inner_macros_name, rustc_builtin_macro_name, allow_internal_unsafe_name, proc_macro_name, proc_macro_attribute_name, proc_macro_derive_name, attributes_name, test_name, clippy_name, rustfmt_name, diagnostic_name, miri_name, rust_analyzer_name}
use Rattle.item_tree.specs.Names.{known_names}

-- the text stands at the name's place, and the constant is that name
abbrev IsKnown : List ℕ → Name → Name → Type 0
IsKnown text name constant = (slice_get known_names name.0 ≡ Some text) × (constant ≡ name)

self_known : IsKnown (codes "self") self_name SELF
self_known = (refl, refl)

std_known : IsKnown (codes "std") std_name STD
std_known = (refl, refl)

core_known : IsKnown (codes "core") core_name CORE
core_known = (refl, refl)

prelude_known : IsKnown (codes "prelude") prelude_name PRELUDE
prelude_known = (refl, refl)

rust_2015_known : IsKnown (codes "rust_2015") rust_2015_name RUST_2015
rust_2015_known = (refl, refl)

rust_2018_known : IsKnown (codes "rust_2018") rust_2018_name RUST_2018
rust_2018_known = (refl, refl)

rust_2021_known : IsKnown (codes "rust_2021") rust_2021_name RUST_2021
rust_2021_known = (refl, refl)

rust_2024_known : IsKnown (codes "rust_2024") rust_2024_name RUST_2024
rust_2024_known = (refl, refl)

recursion_limit_known : IsKnown (codes "recursion_limit") recursion_limit_name RECURSION_LIMIT
recursion_limit_known = (refl, refl)

crate_type_known : IsKnown (codes "crate_type") crate_type_name CRATE_TYPE
crate_type_known = (refl, refl)

no_core_known : IsKnown (codes "no_core") no_core_name NO_CORE
no_core_known = (refl, refl)

no_std_known : IsKnown (codes "no_std") no_std_name NO_STD
no_std_known = (refl, refl)

rustc_coherence_is_core_known : IsKnown (codes "rustc_coherence_is_core") rustc_coherence_is_core_name RUSTC_COHERENCE_IS_CORE
rustc_coherence_is_core_known = (refl, refl)

feature_known : IsKnown (codes "feature") feature_name FEATURE
feature_known = (refl, refl)

register_tool_known : IsKnown (codes "register_tool") register_tool_name REGISTER_TOOL
register_tool_known = (refl, refl)

path_known : IsKnown (codes "path") path_name PATH
path_known = (refl, refl)

macro_use_known : IsKnown (codes "macro_use") macro_use_name MACRO_USE
macro_use_known = (refl, refl)

prelude_import_known : IsKnown (codes "prelude_import") prelude_import_name PRELUDE_IMPORT
prelude_import_known = (refl, refl)

macro_export_known : IsKnown (codes "macro_export") macro_export_name MACRO_EXPORT
macro_export_known = (refl, refl)

local_inner_macros_known : IsKnown (codes "local_inner_macros") local_inner_macros_name LOCAL_INNER_MACROS
local_inner_macros_known = (refl, refl)

rustc_builtin_macro_known : IsKnown (codes "rustc_builtin_macro") rustc_builtin_macro_name RUSTC_BUILTIN_MACRO
rustc_builtin_macro_known = (refl, refl)

allow_internal_unsafe_known : IsKnown (codes "allow_internal_unsafe") allow_internal_unsafe_name ALLOW_INTERNAL_UNSAFE
allow_internal_unsafe_known = (refl, refl)

proc_macro_known : IsKnown (codes "proc_macro") proc_macro_name PROC_MACRO
proc_macro_known = (refl, refl)

proc_macro_attribute_known : IsKnown (codes "proc_macro_attribute") proc_macro_attribute_name PROC_MACRO_ATTRIBUTE
proc_macro_attribute_known = (refl, refl)

proc_macro_derive_known : IsKnown (codes "proc_macro_derive") proc_macro_derive_name PROC_MACRO_DERIVE
proc_macro_derive_known = (refl, refl)

attributes_known : IsKnown (codes "attributes") attributes_name ATTRIBUTES
attributes_known = (refl, refl)

test_known : IsKnown (codes "test") test_name TEST
test_known = (refl, refl)

clippy_known : IsKnown (codes "clippy") clippy_name CLIPPY
clippy_known = (refl, refl)

rustfmt_known : IsKnown (codes "rustfmt") rustfmt_name RUSTFMT
rustfmt_known = (refl, refl)

diagnostic_known : IsKnown (codes "diagnostic") diagnostic_name DIAGNOSTIC
diagnostic_known = (refl, refl)

miri_known : IsKnown (codes "miri") miri_name MIRI
miri_known = (refl, refl)

rust_analyzer_known : IsKnown (codes "rust_analyzer") rust_analyzer_name RUST_ANALYZER
rust_analyzer_known = (refl, refl)
