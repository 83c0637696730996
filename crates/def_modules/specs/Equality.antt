-- Tests of equality of positions and of what maps keep by them.
use Rattle.std.specs.Prelude.{Bool, false, ◌==◌, ◌&&◌}
use Rattle.tree_ids.specs.declared.ids.HirFileId.{HirFileId}
use Rattle.tree_ids.specs.declared.ids.HirFileId.TheVariants.{File, Macro}
use Rattle.def_ids.specs.declared.ids.FunctionId.{FunctionId}
use Rattle.def_ids.specs.declared.ids.ProcMacroId.{ProcMacroId}
use Rattle.def_modules.specs.declared.module_data.DeriveKey.{DeriveKey}
use Rattle.def_modules.specs.declared.module_data.Invocation.{Invocation}
use Rattle.def_modules.specs.MapState.{Position}

-- whether two files are one
abbrev pub file_eq : HirFileId → HirFileId → Bool
file_eq (File a) (File b) = a.0 == b.0
file_eq (Macro a) (Macro b) = a.0 == b.0
file_eq _ _ = false

-- whether two positions are one
abbrev pub position_eq : Position → Position → Bool
position_eq a b = file_eq a.file b.file && (a.value.0 == b.value.0)

-- whether two derive attributes are one
abbrev pub derive_key_eq : DeriveKey → DeriveKey → Bool
derive_key_eq a b = position_eq a.position b.position && (a.attr.0 == b.attr.0)

-- whether two calls at items are one
abbrev pub invocation_eq : Invocation → Invocation → Bool
invocation_eq a b = position_eq a.position b.position && (a.call.0 == b.call.0)

-- whether two functions are one
abbrev pub function_eq : FunctionId → FunctionId → Bool
function_eq a b = a.0 == b.0

-- whether two procedural macros are one
abbrev pub proc_macro_eq : ProcMacroId → ProcMacroId → Bool
proc_macro_eq a b = a.0 == b.0
