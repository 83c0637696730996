-- What a module shows beside its bindings, and what each write does to it.
use Rattle.std.specs.Prelude.{List, Bool, true, false, [], ◌∷◌, ◌++◌, ℕ, Option, None, Some}
use Rattle.indexmap.specs.IndexMap.{get}
use Rattle.tree_ids.specs.declared.ids.AttrId.{AttrId}
use Rattle.tree_ids.specs.declared.ids.MacroCallId.{MacroCallId}
use Rattle.tree_ids.specs.declared.name.Name.{Name}
use Rattle.def_ids.specs.declared.ids.BuiltinDeriveImplId.{BuiltinDeriveImplId}
use Rattle.def_ids.specs.declared.ids.ConstId.{ConstId}
use Rattle.def_ids.specs.declared.ids.Def.{Def}
use Rattle.def_ids.specs.declared.ids.ExternBlockId.{ExternBlockId}
use Rattle.def_ids.specs.declared.ids.ExternCrateId.{ExternCrateId}
use Rattle.def_ids.specs.declared.ids.ImplId.{ImplId}
use Rattle.def_ids.specs.declared.ids.MacroId.{MacroId}
use Rattle.def_bindings.specs.Content.{is_name}
use Rattle.def_bindings.specs.declared.visibility.Visibility.{Visibility}
use Rattle.def_modules.specs.declared.module_data.ModuleData.{ModuleData}
use Rattle.def_modules.specs.declared.module_data.ModuleOrigin.{ModuleOrigin}
use Rattle.def_modules.specs.MapState.{ModuleState, DeriveState, DeriveCall, Position}
use Rattle.def_modules.specs.RareParts.{rare_in}
use Rattle.def_modules.specs.Updates.{set_where}
use Rattle.def_modules.specs.ScopeMaps.{textual_of, with_first, derive_recorded, invoked_with, derive_called, with_last}

-- what a module shows
abbrev pub module_state : ModuleData → ModuleState
module_state m =
    record {
      name = m.name;
      origin = m.origin;
      vis = m.visibility;
      children = get is_name m.children;
      textual = textual_of m.scope.legacy_macros.value;
      declarations = m.scope.declarations;
      extern_crates = (rare_in m.scope.rare).extern_crates;
      unnamed_consts = (rare_in m.scope.rare).unnamed_consts;
      impls = m.scope.impls;
      derive_impls = (rare_in m.scope.rare).derive_impls;
      extern_blocks = (rare_in m.scope.rare).extern_blocks;
      derives = (rare_in m.scope.rare).derives;
      invoked = (rare_in m.scope.rare).invoked;
      failed = (rare_in m.scope.rare).failed;
    }

-- a module with nothing in it
abbrev pub empty_module : Option Name → ModuleOrigin → Visibility → ModuleState
empty_module name origin vis =
    record {
      name = name;
      origin = origin;
      vis = vis;
      children = λ name. None;
      textual = λ name. [];
      declarations = [];
      extern_crates = [];
      unnamed_consts = [];
      impls = [];
      derive_impls = [];
      extern_blocks = [];
      derives = λ position attr. [];
      invoked = λ position call. false;
      failed = λ name. false;
    }

-- one declaration more, behind the others
abbrev pub declared_in : Def → ModuleState → ModuleState
declared_in def m = record m { declarations = m.declarations ++ def ∷ [] }

-- a child's name leads to this index
abbrev pub with_child : Name → ℕ → ModuleState → ModuleState
with_child name child m = record m { children = set_where (is_name name) (Some child) m.children }

-- one textual macro more, before the others of its name
abbrev pub with_textual : Name → MacroId → ModuleState → ModuleState
with_textual name macro_id m = record m { textual = with_first m.textual name macro_id }

-- one extern crate more
abbrev pub with_extern_crate : ExternCrateId → ModuleState → ModuleState
with_extern_crate id m = record m { extern_crates = m.extern_crates ++ id ∷ [] }

-- one extern block more
abbrev pub with_extern_block : ExternBlockId → ModuleState → ModuleState
with_extern_block id m = record m { extern_blocks = m.extern_blocks ++ id ∷ [] }

-- one constant without a name more
abbrev pub with_unnamed_const : ConstId → ModuleState → ModuleState
with_unnamed_const id m = record m { unnamed_consts = m.unnamed_consts ++ id ∷ [] }

-- one impl more; the test says whether it is one of a trait
abbrev pub with_impl : ImplId → Bool → ModuleState → ModuleState
with_impl id of_trait m = record m { impls = m.impls ++ (id, of_trait) ∷ [] }

-- one impl of a builtin derive more
abbrev pub with_derive_impl : BuiltinDeriveImplId → ModuleState → ModuleState
with_derive_impl id m = record m { derive_impls = m.derive_impls ++ id ∷ [] }

-- a derive attribute recorded, behind its earlier records
abbrev pub with_derive : Position → AttrId → DeriveState → ModuleState → ModuleState
with_derive position attr derive m = record m { derives = derive_recorded m.derives position attr derive }

-- a call recorded at its position
abbrev pub with_invocation : Position → MacroCallId → ModuleState → ModuleState
with_invocation position call m = record m { invoked = invoked_with m.invoked position call }

-- a name marked as failed
abbrev pub marked_failed : Name → ModuleState → ModuleState
marked_failed name m = record m { failed = set_where (is_name name) true m.failed }

-- a call at its place of a derive attribute's list, in the first record
abbrev pub called_at : Position → AttrId → ℕ → DeriveCall → ModuleState → ModuleState
called_at position attr pos call m = record m { derives = derive_called m.derives position attr pos call }

-- the textual macros of another module, in the place of its own
abbrev pub with_textual_of : (Name → List MacroId) → ModuleState → ModuleState
with_textual_of textual m = record m { textual = textual }

-- the last textual macro of each name of another module, before its own
abbrev pub brought : (Name → List MacroId) → ModuleState → ModuleState
brought from m = record m { textual = λ name. with_last (from name) (m.textual name) }
