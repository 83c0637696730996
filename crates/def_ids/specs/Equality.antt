-- Tests of equality of macros, definitions and globs.
use Rattle.std.specs.Prelude.{Bool, false, ◌==◌, ◌&&◌}
use Rattle.def_ids.specs.Ids.{is_same_module}
use Rattle.def_ids.specs.declared.ids.MacroId.{MacroId}
use Rattle.def_ids.specs.declared.ids.MacroId.TheVariants.{MacroRules, Macro2, ProcMacro}
use Rattle.def_ids.specs.declared.ids.Def.{Def}
use Rattle.def_ids.specs.declared.ids.Def.TheVariants.{Module, Function, Struct, Union, Enum, Variant, Const, Static, Trait, TypeAlias, Builtin, Macro}
use Rattle.def_ids.specs.declared.ids.GlobId.{GlobId}

-- whether two macros are one
abbrev pub macro_eq : MacroId → MacroId → Bool
macro_eq (MacroRules a) (MacroRules b) = a.0 == b.0
macro_eq (Macro2 a) (Macro2 b) = a.0 == b.0
macro_eq (ProcMacro a) (ProcMacro b) = a.0 == b.0
macro_eq _ _ = false

-- whether two definitions are one
abbrev pub def_eq : Def → Def → Bool
def_eq (Module a) (Module b) = is_same_module a b
def_eq (Function a) (Function b) = a.0 == b.0
def_eq (Struct a) (Struct b) = a.0 == b.0
def_eq (Union a) (Union b) = a.0 == b.0
def_eq (Enum a) (Enum b) = a.0 == b.0
def_eq (Variant a) (Variant b) = a.0 == b.0
def_eq (Const a) (Const b) = a.0 == b.0
def_eq (Static a) (Static b) = a.0 == b.0
def_eq (Trait a) (Trait b) = a.0 == b.0
def_eq (TypeAlias a) (TypeAlias b) = a.0 == b.0
def_eq (Builtin a) (Builtin b) = a == b
def_eq (Macro a) (Macro b) = macro_eq a b
def_eq _ _ = false

-- whether two globs are one
abbrev pub glob_eq : GlobId → GlobId → Bool
glob_eq a b = (a.use_id.0 == b.use_id.0) && (a.idx == b.idx)
