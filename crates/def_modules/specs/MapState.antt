-- All that a map shows beside its bindings.
use Rattle.std.specs.Prelude.{ℕ, Bool, List, Option}
use Rattle.either.specs.declared.Either.{Either}
use Rattle.tree_ids.specs.declared.ids.AttrId.{AttrId}
use Rattle.tree_ids.specs.declared.ids.FileAstId.{FileAstId}
use Rattle.tree_ids.specs.declared.ids.InFile.{InFile}
use Rattle.tree_ids.specs.declared.ids.MacroCallId.{MacroCallId}
use Rattle.tree_ids.specs.declared.name.Name.{Name}
use Rattle.def_ids.specs.declared.ids.BuiltinDeriveImplId.{BuiltinDeriveImplId}
use Rattle.def_ids.specs.declared.ids.ConstId.{ConstId}
use Rattle.def_ids.specs.declared.ids.Def.{Def}
use Rattle.def_ids.specs.declared.ids.ExternBlockId.{ExternBlockId}
use Rattle.def_ids.specs.declared.ids.ExternCrateId.{ExternCrateId}
use Rattle.def_ids.specs.declared.ids.FunctionId.{FunctionId}
use Rattle.def_ids.specs.declared.ids.ImplId.{ImplId}
use Rattle.def_ids.specs.declared.ids.MacroId.{MacroId}
use Rattle.def_ids.specs.declared.ids.MapId.{MapId}
use Rattle.def_ids.specs.declared.ids.ModuleId.{ModuleId}
use Rattle.def_ids.specs.declared.ids.ProcMacroId.{ProcMacroId}
use Rattle.def_ids.specs.declared.edition.Edition.{Edition}
use Rattle.def_bindings.specs.declared.visibility.Visibility.{Visibility}
use Rattle.def_modules.specs.declared.module_data.ModuleOrigin.{ModuleOrigin}

-- an item's position in its file
abbrev pub Position : Type 0
Position = InFile FileAstId

-- a call that a derive gave, or a builtin derive's impl
abbrev pub DeriveCall : Type 0
DeriveCall = Either MacroCallId BuiltinDeriveImplId

-- a derive attribute's call, and what each path of its list gave
pub record DeriveState : Type 0 where
  pub call : MacroCallId
  pub calls : List (Option DeriveCall)

-- what a map shows of a module beside its bindings and its parent
pub record ModuleState : Type 0 where
  pub name : Option Name
  pub origin : ModuleOrigin
  pub vis : Visibility
  pub children : Name → Option ℕ
  -- the textual macros by name, the last one first
  pub textual : Name → List MacroId
  pub declarations : List Def
  pub extern_crates : List ExternCrateId
  pub unnamed_consts : List ConstId
  pub impls : List (ImplId × Bool)
  pub derive_impls : List BuiltinDeriveImplId
  pub extern_blocks : List ExternBlockId
  -- the records of derive attributes, by position and attribute, in order
  pub derives : Position → AttrId → List DeriveState
  -- the macro calls, each with its position, as a set
  pub invoked : Position → MacroCallId → Bool
  -- the names that failed to import
  pub failed : Name → Bool

-- what is known of a crate, which its map and those of its blocks share
pub record CrateState : Type 0 where
  pub exported_helpers : MacroId → Option (List Name)
  pub macro_of_function : FunctionId → Option ProcMacroId
  pub function_of_macro : ProcMacroId → Option FunctionId
  pub tools : List Name
  pub features : Name → Bool
  pub coherence_is_core : Bool
  pub no_core : Bool
  pub no_std : Bool
  pub edition : Edition
  pub recursion_limit : Option ℕ

-- a helper attribute as a map shows it: its name, the derive macro, and what the derive gave
pub record ShownHelper : Type 0 where
  pub name : Name
  pub macro_id : MacroId
  pub by : DeriveCall

-- all that a map shows beside its bindings
pub record MapState : Type 0 where
  pub id : MapId
  -- the modules around a block, innermost first
  pub containing : List ModuleId
  -- each module's parent, by number
  pub parents : List (Option ℕ)
  pub modules : List ModuleState
  pub krate : CrateState
  pub prelude : Option ModuleId
  -- the macros that extern crates brought
  pub macro_use : Name → Option MacroId
  pub helpers : Position → List ShownHelper
  pub macro_at : Position → Option MacroId
