-- Paths of small worlds, as they compute.
use Rattle.std.proofs.Common.{◌≡◌, refl, ℕ, true, false, ◌==◌, ◌&&◌, List, [], ◌∷◌, Option, Some, None, Ok, if◌then◌else◌}
use Rattle.item_tree.specs.declared.mod_path.ModPath.{ModPath}
use Rattle.item_tree.specs.declared.mod_path.PathKind.{PathKind}
use Rattle.item_tree.specs.declared.mod_path.PathKind.TheVariants.{Plain, Super, Crate, Abs}
use Rattle.item_tree.specs.declared.items.RawVisibility.TheVariants as raw
use Rattle.tree_ids.specs.declared.name.Name.{Name}
use Rattle.def_ids.specs.declared.ids.Def.TheVariants as def
use Rattle.def_ids.specs.declared.ids.MapId.{MapId}
use Rattle.def_ids.specs.declared.ids.ModuleId.{ModuleId}
use Rattle.def_ids.specs.declared.edition.Edition.{Edition}
use Rattle.def_ids.specs.declared.edition.Edition.TheVariants.{Edition2015, Edition2021}
use Rattle.def_ids.specs.Ids.{is_same_module}
use Rattle.def_bindings.specs.declared.bindings.Namespace.{Namespace}
use Rattle.def_bindings.specs.declared.bindings.Namespace.TheVariants.{Types, Values, Macros}
use Rattle.def_bindings.specs.declared.visibility.Visibility.TheVariants as vis
use Rattle.def_sources.specs.declared.asked.BuiltinShadowMode.TheVariants as shadow
use Rattle.def_sources.specs.declared.asked.ResolveMode.TheVariants as mode
use Rattle.def_paths.specs.Answers.{missing, reached}
use Rattle.def_sources.specs.Items.{public_item, module_item}
use Rattle.def_modules.specs.MapView.{MapView}
use Rattle.def_oracle.specs.Oracle.{Oracle}
use Rattle.def_paths.specs.Paths.{World, asked_by, for_import, for_module, resolve, resolve_visibility}
use Rattle.def_sources.specs.PerNs.{Item, in_types, nothing}

-- an oracle that knows the builtin type 9, number 5, a finished map of each crate, and nothing else
abbrev pub oracle_with : MapView → Oracle
oracle_with other = record {
  item_tree = λ _. None;
  crate_data = λ _. None;
  crate_def_map = λ _. Some other;
  outer_map = λ _. None;
  local_def_map = λ _. None;
  resolve_path = λ _ _. None;
  original_file = λ _. record { 0 = 0 };
  expansion_depth = λ _. 0;
  asked_paths = λ _. [];
  macro_call = λ _ _. Ok (record { value = None; err = None; inner = [] });
  make_attr_call = λ _. record { 0 = 0 };
  make_derive_call = λ _. record { 0 = 0 };
  is_include = λ _. false;
  enum_variants = λ _. None;
  assoc_items = λ _. None;
  rule_styles = λ _ _. record { 0 = 0 };
  proc_macros = λ _. [];
  find_builtin_macro = λ _. None;
  find_builtin_derive = λ _. None;
  find_builtin_attr = λ _. None;
  builtin_type = λ name. if name.0 == 9 then Some 5 else None;
  is_builtin_attr = λ _. false;
  has_builtin_derive_impl = λ _. false;
  derive_traits = λ _. [];
  cfg_flag = λ _ _. false;
  builtin_derive_fast_path = false;
  expand_proc_attr_macros = false;
}

-- modules of crate 0, of its block 0, and of crate 1
abbrev pub in_crate : ℕ → ModuleId
in_crate i = record { map = record { krate = record { 0 = 0 }; block = None }; index = i }

abbrev pub in_block : ℕ → ModuleId
in_block i = record { map = record { krate = record { 0 = 0 }; block = Some (record { 0 = 0 }) }; index = i }

abbrev pub elsewhere : ModuleId
elsewhere = record { map = record { krate = record { 0 = 1 }; block = None }; index = 0 }

abbrev pub a_struct : ℕ → Item
a_struct i = public_item (def.Struct (record { 0 = i }))

-- the items of names in types
abbrev bound_in_types : List (ModuleId × ℕ × Item) → ModuleId → Name → Option Item
bound_in_types [] m name = None
bound_in_types ((at, x, item) ∷ rest) m name = if is_same_module at m && (x == name.0) then Some item else bound_in_types rest m name

abbrev bound_by : List (ModuleId × ℕ × Item) → ModuleId → Name → Namespace → Option Item
bound_by entries m name Types = bound_in_types entries m name
bound_by entries m name Values = None
bound_by entries m name Macros = None

-- a map of these bindings, whose modules lie beside each other under the root
abbrev map_by : MapId → Edition → List (ModuleId × ℕ × Item) → MapView
map_by id edition entries = record {
  facts = record {
    id = id;
    edition = edition;
    chain = λ m. if m.index == 0 then m ∷ [] else m ∷ record { map = m.map; index = 0 } ∷ [];
    containing = [];
    prelude = None;
    textual_macro = λ _ _. None;
    macro_use = λ _. None;
    exported_helpers = λ _. None;
  };
  content = record { binding = bound_by entries; names = λ _. []; unnamed = λ _. []; edges = λ _. [] };
}

-- the world of a map, where name 1 is also a crate's, and that crate binds name 2
abbrev world_by : MapView → World
world_by own = record {
  oracle = oracle_with (map_by elsewhere.map Edition2021 ((elsewhere, 2, a_struct 7) ∷ []));
  session = record { text = λ _. None; item = λ _ _. None; macro_at = λ _. None; derive_impl = λ _. None };
  map = own;
  local = record { extern_prelude = λ name. if name.0 == 1 then Some (record { root = elsewhere; by = None }) else None };
}

-- name 0 is bound in the root and in module 1, name 1 in module 1, name 9 is a module, and module 1 is bound as 3
abbrev crate_world : Edition → World
crate_world edition = world_by (map_by (in_crate 0).map edition
    ((in_crate 0, 0, a_struct 0) ∷ (in_crate 1, 0, a_struct 1) ∷ (in_crate 1, 1, a_struct 2) ∷ (in_crate 1, 9, module_item (in_crate 2)) ∷ (in_crate 0, 3, module_item (in_crate 1)) ∷ []))

abbrev pub path : PathKind → List Name → ModPath
path kind names = record { kind = kind; segments = names }

abbrev pub name : ℕ → Name
name i = record { 0 = i }

-- an import of edition 2015 begins at the crate's root, a later one at its module
pub import_of_2015 : resolve (crate_world Edition2015) for_import (in_crate 1) (path Plain (name 0 ∷ [])) ≡ reached (in_types (a_struct 0)) None false
import_of_2015 = refl

pub import_of_2021 : resolve (crate_world Edition2021) for_import (in_crate 1) (path Plain (name 0 ∷ [])) ≡ reached (in_types (a_struct 1)) None false
import_of_2021 = refl

-- an absolute path begins at another crate, in edition 2015 only where the root has no such name
pub absolute_of_2021 : resolve (crate_world Edition2021) for_module (in_crate 1) (path Abs (name 0 ∷ [])) ≡ missing false
absolute_of_2021 = refl

pub absolute_of_2015 : resolve (crate_world Edition2015) for_module (in_crate 1) (path Abs (name 0 ∷ [])) ≡ reached (in_types (a_struct 0)) None false
absolute_of_2015 = refl

-- the scope goes before the extern prelude, and a segment that is looked up in another crate is noted
pub scope_first : resolve (crate_world Edition2021) for_module (in_crate 1) (path Plain (name 1 ∷ [])) ≡ reached (in_types (a_struct 2)) None false
scope_first = refl

pub crossing : resolve (crate_world Edition2021) for_module (in_crate 0) (path Plain (name 1 ∷ name 2 ∷ [])) ≡ reached (in_types (a_struct 7)) None true
crossing = refl

-- a builtin type goes before a module where its name stands alone, but not in an import
pub builtin_first : resolve (crate_world Edition2021) (asked_by mode.Other shadow.Other None) (in_crate 1) (path Plain (name 9 ∷ [])) ≡ reached (in_types (public_item (def.Builtin 5))) None false
builtin_first = refl

pub module_first : resolve (crate_world Edition2021) for_import (in_crate 1) (path Plain (name 9 ∷ [])) ≡ reached (in_types (module_item (in_crate 2))) None false
module_first = refl

pub not_alone : resolve (crate_world Edition2021) (asked_by mode.Other shadow.Other None) (in_crate 1) (path Plain (name 9 ∷ name 0 ∷ [])) ≡ reached nothing None false
not_alone = refl

-- a segment behind a definition without names is left, and one behind nothing is missing
pub left_over : resolve (crate_world Edition2021) for_module (in_crate 0) (path Crate (name 0 ∷ name 4 ∷ name 5 ∷ [])) ≡ reached (in_types (a_struct 0)) (Some 1) false
left_over = refl

pub prefix_missing : resolve (crate_world Edition2021) for_module (in_crate 0) (path Crate (name 4 ∷ name 5 ∷ [])) ≡ missing false
prefix_missing = refl

-- `super` is the parent, and above the root there is none
pub parent : resolve (crate_world Edition2021) for_module (in_crate 1) (path (Super 1) []) ≡ reached (in_types (module_item (in_crate 0))) None false
parent = refl

pub above_root : resolve (crate_world Edition2021) for_module (in_crate 0) (path (Super 1) []) ≡ missing false
above_root = refl

-- a block's root skips the extern prelude and the builtin types, and `self` there is no module of the block
abbrev block_world : World
block_world = world_by (map_by (in_block 0).map Edition2021 [])

pub block_root_skips : resolve block_world for_module (in_block 0) (path Plain (name 1 ∷ [])) ≡ missing false
block_root_skips = refl

pub block_module_asks : resolve block_world for_module (in_block 1) (path Plain (name 1 ∷ [])) ≡ reached (in_types (module_item elsewhere)) None false
block_module_asks = refl

pub block_has_no_builtin : resolve block_world for_module (in_block 1) (path Plain (name 9 ∷ [])) ≡ missing false
block_has_no_builtin = refl

-- a visibility is a module's, where its path ends at one
pub visibility_in : resolve_visibility (crate_world Edition2021) (in_crate 2) (raw.In (path Crate (name 3 ∷ []))) ≡ Some (vis.Module (in_crate 1))
visibility_in = refl

pub visibility_in_struct : resolve_visibility (crate_world Edition2021) (in_crate 2) (raw.In (path Crate (name 3 ∷ name 0 ∷ []))) ≡ None
visibility_in_struct = refl
