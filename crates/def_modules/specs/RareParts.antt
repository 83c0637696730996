-- What the parts of a scope that few modules have show.
use Rattle.std.specs.Prelude.{ℕ, Bool, false, List, [], Option, None, Some, Box}
use Rattle.indexmap.specs.IndexSet.{contains}
use Rattle.tree_ids.specs.declared.ids.AttrId.{AttrId}
use Rattle.tree_ids.specs.declared.ids.MacroCallId.{MacroCallId}
use Rattle.tree_ids.specs.declared.name.Name.{Name}
use Rattle.def_ids.specs.declared.ids.BuiltinDeriveImplId.{BuiltinDeriveImplId}
use Rattle.def_ids.specs.declared.ids.ConstId.{ConstId}
use Rattle.def_ids.specs.declared.ids.ExternBlockId.{ExternBlockId}
use Rattle.def_ids.specs.declared.ids.ExternCrateId.{ExternCrateId}
use Rattle.def_bindings.specs.Content.{is_name}
use Rattle.def_modules.specs.declared.module_data.RareParts.{RareParts}
use Rattle.def_modules.specs.MapState.{DeriveState, DeriveCall, Position}
use Rattle.def_modules.specs.ScopeMaps.{derives_of, invoked_of, derive_called}

-- what these parts show
pub record RareState : Type 0 where
  pub extern_crates : List ExternCrateId
  pub extern_blocks : List ExternBlockId
  pub unnamed_consts : List ConstId
  pub derive_impls : List BuiltinDeriveImplId
  pub derives : Position → AttrId → List DeriveState
  pub invoked : Position → MacroCallId → Bool
  pub failed : Name → Bool

-- what they show
abbrev pub rare_state : RareParts → RareState
rare_state r =
    record {
      extern_crates = r.extern_crates;
      extern_blocks = r.extern_blocks;
      unnamed_consts = r.unnamed_consts;
      derive_impls = r.builtin_derive_impls;
      derives = derives_of r.derives;
      invoked = invoked_of r.invocations;
      failed = contains is_name r.failed;
    }

-- what parts with nothing in them show
abbrev pub no_rare : RareState
no_rare =
    record {
      extern_crates = [];
      extern_blocks = [];
      unnamed_consts = [];
      derive_impls = [];
      derives = λ position attr. [];
      invoked = λ position call. false;
      failed = λ name. false;
    }

-- what the parts of a scope show; where none were made, it has nothing of them
abbrev pub rare_in : {A : Type 0} → Option (Box RareParts A) → RareState
rare_in None = no_rare
rare_in (Some rare) = rare_state rare.value

-- a call of a derive's list at its place
abbrev pub rare_called_at : Position → AttrId → ℕ → DeriveCall → RareState → RareState
rare_called_at position attr pos call r = record r { derives = derive_called r.derives position attr pos call }
