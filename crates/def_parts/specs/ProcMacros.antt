-- Declarations of procedural macros, as calls answer them.
use Rattle.std.specs.Prelude.{Vec}
use Rattle.std.specs.Global.{Global}
use Rattle.tree_ids.specs.declared.name.Name.{Name}
use Rattle.def_readings.specs.DeriveNames.{NameAndHelpers}
use Rattle.def_readings.specs.ProcMacros.{MacroDecl, MacroKind, derive, bang, attribute}
use Rattle.def_parts.specs.declared.proc_macro.ProcMacroKind.{ProcMacroKind}
use Rattle.def_parts.specs.declared.proc_macro.ProcMacroKind.TheVariants.{Derive, Bang, Attr as Attribute}
use Rattle.def_parts.specs.declared.proc_macro.ProcMacroDef.{ProcMacroDef}

-- a derive's name and its helper attributes, as a call answers them
abbrev pub read_as : Name × Vec Name Global → NameAndHelpers
read_as answer = record { name = answer.0; helpers = answer.1.items }

abbrev pub kind_of : ProcMacroKind → MacroKind
kind_of (Derive helpers) = derive helpers.items
kind_of Bang = bang
kind_of Attribute = attribute

abbrev pub decl_of : ProcMacroDef → MacroDecl
decl_of def = record { name = def.name; kind = kind_of def.kind }
