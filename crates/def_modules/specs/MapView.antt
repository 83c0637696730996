-- What paths read of a map, as records of functions.
use Rattle.std.specs.Prelude.{List, Option, None}
use Rattle.tree_ids.specs.declared.name.Name.{Name}
use Rattle.def_ids.specs.declared.ids.ExternCrateId.{ExternCrateId}
use Rattle.def_ids.specs.declared.ids.MacroId.{MacroId}
use Rattle.def_ids.specs.declared.ids.MapId.{MapId}
use Rattle.def_ids.specs.declared.ids.ModuleId.{ModuleId}
use Rattle.def_ids.specs.declared.edition.Edition.{Edition}
use Rattle.def_bindings.specs.declared.visibility.Visibility.{Visibility}
use Rattle.def_bindings.specs.Content.{Content}

-- all of a map that paths read but its bindings
pub record MapFacts : Type 0 where
  pub id : MapId
  pub edition : Edition
  -- a module, its parent and so on, and beyond a block's root the modules around the block
  pub chain : ModuleId → List ModuleId
  -- the modules around a block, innermost first
  pub containing : List ModuleId
  pub prelude : Option ModuleId
  -- the last textual macro of a name in a module of this map
  pub textual_macro : ModuleId → Name → Option MacroId
  -- the macros that extern crates brought
  pub macro_use : Name → Option MacroId
  -- the helper attributes of a macro, where it is an exported derive macro
  pub exported_helpers : MacroId → Option (List Name)

-- a map as paths see it
pub record MapView : Type 0 where
  pub facts : MapFacts
  pub content : Content Visibility

-- a crate named outside all modules, and the `extern crate` that put it there, if one did
pub record ExternCrateEntry : Type 0 where
  pub root : ModuleId
  pub by : Option ExternCrateId

-- the names of crates that paths may begin with
pub record LocalView : Type 0 where
  pub extern_prelude : Name → Option ExternCrateEntry

-- a local map without names
abbrev pub empty_local : LocalView
empty_local = record { extern_prelude = λ _. None }
