-- The names with which every table begins, by their places in it.
use Rattle.std.specs.Prelude.{Bool, nat_eq}
use Rattle.tree_ids.specs.declared.name.Name.{Name}

-- whether two names are one
abbrev pub name_eq : Name → Name → Bool
name_eq a b = nat_eq a.0 b.0

abbrev pub self_name : Name
self_name = record { 0 = 0 }

abbrev pub std_name : Name
std_name = record { 0 = 1 }

abbrev pub core_name : Name
core_name = record { 0 = 2 }

abbrev pub prelude_name : Name
prelude_name = record { 0 = 3 }

abbrev pub rust_2015_name : Name
rust_2015_name = record { 0 = 4 }

abbrev pub rust_2018_name : Name
rust_2018_name = record { 0 = 5 }

abbrev pub rust_2021_name : Name
rust_2021_name = record { 0 = 6 }

abbrev pub rust_2024_name : Name
rust_2024_name = record { 0 = 7 }

abbrev pub recursion_limit_name : Name
recursion_limit_name = record { 0 = 8 }

abbrev pub crate_type_name : Name
crate_type_name = record { 0 = 9 }

abbrev pub no_core_name : Name
no_core_name = record { 0 = 10 }

abbrev pub no_std_name : Name
no_std_name = record { 0 = 11 }

abbrev pub rustc_coherence_is_core_name : Name
rustc_coherence_is_core_name = record { 0 = 12 }

abbrev pub feature_name : Name
feature_name = record { 0 = 13 }

abbrev pub register_tool_name : Name
register_tool_name = record { 0 = 14 }

abbrev pub path_name : Name
path_name = record { 0 = 15 }

abbrev pub macro_use_name : Name
macro_use_name = record { 0 = 16 }

abbrev pub prelude_import_name : Name
prelude_import_name = record { 0 = 17 }

abbrev pub macro_export_name : Name
macro_export_name = record { 0 = 18 }

abbrev pub local_inner_macros_name : Name
local_inner_macros_name = record { 0 = 19 }

abbrev pub rustc_builtin_macro_name : Name
rustc_builtin_macro_name = record { 0 = 20 }

abbrev pub allow_internal_unsafe_name : Name
allow_internal_unsafe_name = record { 0 = 21 }

abbrev pub proc_macro_name : Name
proc_macro_name = record { 0 = 22 }

abbrev pub proc_macro_attribute_name : Name
proc_macro_attribute_name = record { 0 = 23 }

abbrev pub proc_macro_derive_name : Name
proc_macro_derive_name = record { 0 = 24 }

abbrev pub attributes_name : Name
attributes_name = record { 0 = 25 }

abbrev pub test_name : Name
test_name = record { 0 = 26 }

abbrev pub clippy_name : Name
clippy_name = record { 0 = 27 }

abbrev pub rustfmt_name : Name
rustfmt_name = record { 0 = 28 }

abbrev pub diagnostic_name : Name
diagnostic_name = record { 0 = 29 }

abbrev pub miri_name : Name
miri_name = record { 0 = 30 }

abbrev pub rust_analyzer_name : Name
rust_analyzer_name = record { 0 = 31 }
