-- What the database of one file answers.
use Rattle.std.specs.Prelude.{ℕ, ◌+◌, ◌-◌, ◌^◌, min, false, List, [], ◌∷◌, Option, Some, None, Result, Ok, Err, option_map, slice_get}
use Rattle.tree_ids.specs.declared.ids.HirFileId.{HirFileId}
use Rattle.tree_ids.specs.declared.ids.HirFileId.TheVariants.{File, Macro}
use Rattle.item_tree.specs.declared.tree.ItemTree.{ItemTree}
use Rattle.item_tree.specs.KnownNames.{rustc_builtin_macro_name}
use Rattle.def_ids.specs.declared.expander.BuiltinAttr.TheVariants.{Derive}
use Rattle.def_interner.specs.declared.macro_def.MacroDefId.{MacroDefId}
use Rattle.def_bindings.specs.Content.{is_name}
use Rattle.def_map.specs.Oracle.{Oracle}
use Rattle.def_map.specs.Queries.{PlainCall}
use Rattle.def_oracle.specs.declared.source_database.CallAnswer.{CallAnswer}
use Rattle.def_oracle.specs.declared.source_database.UnresolvedMacro.{UnresolvedMacro}
use Rattle.def_map.specs.DefMaps.{state_of, view_of}
use Rattle.def_map.specs.MapStates.{MapStates}
use Rattle.def_modules.specs.Locals.{local_view}
use Rattle.def_oracle.specs.declared.source_database.AssocItemsOwner.{AssocItemsOwner}
use Rattle.def_oracle.specs.declared.source_database.AssocItemsOwner.TheVariants as owner
use Rattle.def_oracle.specs.declared.source_database.AssocList.{AssocList}
use Rattle.defmap_bench.specs.declared.database.OneFile.{OneFile}
use Rattle.defmap_bench.specs.declared.database.OneTrait.{OneTrait}

-- the items of a file: those of the one file, or what a call gives
abbrev pub tree_in : OneFile → HirFileId → Option ItemTree
tree_in one (File file) = Some one.tree
tree_in one (Macro call) = slice_get one.expansions.items call.0

-- the number of an item's call: in the file the item's own, and in what a call gives the next one after that call's
abbrev pub number_at : HirFileId → ℕ → ℕ
number_at (File _) item = item
number_at (Macro call) item = min (call.0 + 1) (2 ^ 64 - 1)

-- a call whose macro is found has the number of its place
abbrev pub call_answer : PlainCall → List (Option MacroDefId) → Result CallAnswer UnresolvedMacro
call_answer query (Some found ∷ _) = Ok (record { value = Some (record { 0 = number_at query.position.file query.position.value.0 }); err = None; inner = [] })
call_answer query _ = Err (record { path = query.path })

-- the items of the one trait, and what a call among them gives
abbrev pub items_in : OneTrait → AssocItemsOwner → Option AssocList
items_in one (owner.Trait id) = Some one.written
items_in one (owner.Impl id) = None
items_in one (owner.Expansion call) = Some one.given

-- so they are, if there is a trait
abbrev pub items_of : Option OneTrait → AssocItemsOwner → Option AssocList
items_of None of = None
items_of (Some one) of = items_in one of

-- all answers: each question is about the one file and the one crate
abbrev pub answers_of : OneFile → Oracle
answers_of one =
    record {
      item_tree = λ id. tree_in one id.file;
      crate_data = λ krate. Some one.krate;
      crate_def_map = λ krate. option_map (λ (it : OneTrait). view_of it.def_map) one.one_trait;
      outer_map = λ block. None;
      local_def_map = λ krate. option_map (λ (it : OneTrait). local_view it.local_def_map) one.one_trait;
      resolve_path = λ anchor path. None;
      original_file = λ file. record { 0 = 0 };
      expansion_depth = λ file. 0;
      asked_paths = λ query. query.path ∷ [];
      macro_call = call_answer;
      make_attr_call = λ query. record { 0 = 0 };
      make_derive_call = λ query. record { 0 = number_at query.position.file query.position.value.0 };
      is_include = λ call. false;
      enum_variants = λ loc. None;
      assoc_items = items_of one.one_trait;
      rule_styles = λ position krate. record { 0 = 5 };
      proc_macros = λ krate. [];
      find_builtin_macro = λ name. None;
      find_builtin_derive = λ name. None;
      find_builtin_attr = λ name. Some Derive;
      builtin_type = λ name. None;
      is_builtin_attr = λ name. is_name name rustc_builtin_macro_name;
      has_builtin_derive_impl = λ derive. false;
      derive_traits = λ derive. [];
      cfg_flag = λ krate name. false;
      builtin_derive_fast_path = false;
      expand_proc_attr_macros = false;
    }

-- what its map shows beside
abbrev pub states_of : OneFile → MapStates
states_of one = record { of_crate = λ krate. option_map (λ (it : OneTrait). state_of it.def_map) one.one_trait; of_block = λ block. None }
