-- What the oracle of one trait answers, by what it holds. The oracle itself is code of a test, which no
-- definition can name.
use Rattle.std.specs.Prelude.{ℕ, false, List, [], ◌∷◌, Option, Some, None, Result, Ok, Err, option_map}
use Rattle.hir_def.specs.declared.HirFileId.{HirFileId}
use Rattle.hir_def.specs.declared.HirFileId.TheVariants.{File, Macro}
use Rattle.hir_def.specs.declared.ItemTree.{ItemTree}
use Rattle.hir_def.specs.declared.AssocItemsOwner.{AssocItemsOwner}
use Rattle.hir_def.specs.declared.AssocItemsOwner.TheVariants.{Trait, Impl, Expansion}
use Rattle.hir_def.specs.declared.AssocList.{AssocList}
use Rattle.hir_def.specs.declared.CallAnswer.{CallAnswer}
use Rattle.hir_def.specs.declared.CrateData.{CrateData}
use Rattle.hir_def.specs.declared.DefMap.{DefMap}
use Rattle.hir_def.specs.declared.LocalDefMap.{LocalDefMap}
use Rattle.hir_def.specs.declared.MacroDefId.{MacroDefId}
use Rattle.hir_def.specs.declared.UnresolvedMacro.{UnresolvedMacro}
use Rattle.hir_def.specs.DefMaps.{state_of, view_of}
use Rattle.hir_def.specs.Locals.{local_view}
use Rattle.hir_def.specs.MapStates.{MapStates}
use Rattle.hir_def.specs.Oracle.{Oracle}
use Rattle.hir_def.specs.Queries.{PlainCall}

-- the items of the one file; no macro gives items of modules
abbrev pub tree_in : ItemTree → HirFileId → Option ItemTree
tree_in tree (File file) = Some tree
tree_in tree (Macro call) = None

-- each file is as it is written, and what the macro gives lies one level deeper
abbrev pub depth_of : HirFileId → ℕ
depth_of (File file) = 0
depth_of (Macro call) = 1

-- a call has an answer where its macro is found
abbrev pub call_answer : PlainCall → List (Option MacroDefId) → Result CallAnswer UnresolvedMacro
call_answer query (Some found ∷ _) = Ok (record { value = Some (record { 0 = 0 }); err = None; inner = [] })
call_answer query _ = Err (record { path = query.path })

-- the items of each trait as they are written, and what each call gives
abbrev pub items_of : AssocList → AssocList → AssocItemsOwner → Option AssocList
items_of written given (Trait id) = Some written
items_of written given (Impl id) = None
items_of written given (Expansion call) = Some given

-- all answers
abbrev pub answers_of : ItemTree → CrateData → AssocList → AssocList → Option (DefMap × LocalDefMap) → Oracle
answers_of tree known written given maps =
    record {
      item_tree = λ id. tree_in tree id.file;
      crate_data = λ krate. Some known;
      crate_def_map = λ krate. option_map (λ both. view_of both.0) maps;
      outer_map = λ block. None;
      local_def_map = λ krate. option_map (λ both. local_view both.1) maps;
      resolve_path = λ anchor path. None;
      original_file = λ file. record { 0 = 0 };
      expansion_depth = depth_of;
      asked_paths = λ query. query.path ∷ [];
      macro_call = call_answer;
      make_attr_call = λ query. record { 0 = 1 };
      make_derive_call = λ query. record { 0 = 1 };
      is_include = λ call. false;
      enum_variants = λ loc. None;
      assoc_items = items_of written given;
      rule_styles = λ position krate. record { 0 = 1 };
      proc_macros = λ krate. [];
      find_builtin_macro = λ name. None;
      find_builtin_derive = λ name. None;
      find_builtin_attr = λ name. None;
      builtin_type = λ name. None;
      is_builtin_attr = λ name. false;
      has_builtin_derive_impl = λ derive. false;
      derive_traits = λ derive. [];
      cfg_flag = λ krate name. false;
      builtin_derive_fast_path = false;
      expand_proc_attr_macros = false;
    }

-- what the map of the crate shows beside what paths read
abbrev pub states_of : Option (DefMap × LocalDefMap) → MapStates
states_of maps = record { of_crate = λ krate. option_map (λ both. state_of both.0) maps; of_block = λ block. None }
