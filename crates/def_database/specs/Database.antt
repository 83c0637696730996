-- What a database whose answers were written down answers.
use Rattle.std.specs.Prelude.{Bool, false, ◌==◌, ◌&&◌, ◌||◌, nat_le, List, [], ◌∷◌, ℕ, String, Option, Some, None, option_map, unwrap_or, is_some, nat_eq}
use Rattle.std.specs.Option.{option_map_or}
use Rattle.indexmap.specs.IndexMap.{IndexMap, get, get_by_text}
use Rattle.indexmap.specs.IndexSet.{contains}
use Rattle.tree_ids.specs.declared.ids.BlockId.{BlockId}
use Rattle.tree_ids.specs.declared.ids.Crate.{Crate}
use Rattle.tree_ids.specs.declared.ids.FileId.{FileId}
use Rattle.tree_ids.specs.declared.ids.HirFileId.{HirFileId}
use Rattle.tree_ids.specs.declared.ids.HirFileId.TheVariants.{File, Macro}
use Rattle.tree_ids.specs.declared.ids.TreeId.{TreeId}
use Rattle.tree_ids.specs.declared.name.Name.{Name}
use Rattle.def_ids.specs.Ids.{is_same_block}
use Rattle.def_bindings.specs.Content.{is_name}
use Rattle.def_map.specs.DefMaps.{state_of, view_of}
use Rattle.def_map.specs.MapStates.{MapStates}
use Rattle.def_modules.specs.Equality.{file_eq, position_eq}
use Rattle.def_modules.specs.Locals.{local_view}
use Rattle.def_map.specs.Oracle.{Oracle}
use Rattle.def_oracle.specs.declared.source_database.AssocItemsOwner.{AssocItemsOwner}
use Rattle.def_oracle.specs.declared.source_database.AssocItemsOwner.TheVariants as owners
use Rattle.def_database.specs.declared.database.AssocKey.{AssocKey}
use Rattle.def_database.specs.declared.database.AssocKey.TheVariants.{Trait, Impl, Expansion}
use Rattle.def_database.specs.declared.database.CfgFlag.{CfgFlag}
use Rattle.def_database.specs.declared.database.Database.{Database}
use Rattle.def_database.specs.ByMacro.{said_at}
use Rattle.def_database.specs.Calls.{attr_call, call_answer, call_eq, derive_call, derive_place_eq, fn_like, no_call}

-- whether two trees are one
abbrev pub tree_eq : TreeId → TreeId → Bool
tree_eq a b = file_eq a.file b.file && is_same_block a.block b.block

-- whether two crates are one
abbrev pub crate_eq : Crate → Crate → Bool
crate_eq a b = a.0 == b.0

-- whether two files are one
abbrev pub file_id_eq : FileId → FileId → Bool
file_id_eq a b = a.0 == b.0

-- whether two blocks are one
abbrev pub block_eq : BlockId → BlockId → Bool
block_eq a b = a.0 == b.0

-- whether two flags are one
abbrev pub flag_eq : CfgFlag → CfgFlag → Bool
flag_eq a b = (a.krate.0 == b.krate.0) && (a.name.0 == b.name.0)

-- what the associated items of a trait, an impl or an expansion are found by
abbrev pub assoc_key : AssocItemsOwner → AssocKey
assoc_key (owners.Trait id) = Trait id
assoc_key (owners.Impl id) = Impl id
assoc_key (owners.Expansion call) = Expansion call

-- whether two of these are one
abbrev pub assoc_key_eq : AssocKey → AssocKey → Bool
assoc_key_eq (Trait a) (Trait b) = a.0 == b.0
assoc_key_eq (Impl a) (Impl b) = a.0 == b.0
assoc_key_eq (Expansion a) (Expansion b) = a.0 == b.0
assoc_key_eq _ _ = false

-- whether two owners of associated items are one
abbrev pub owner_eq : AssocItemsOwner → AssocItemsOwner → Bool
owner_eq a b = assoc_key_eq (assoc_key a) (assoc_key b)

-- whether definitions are collected by attributes of a name
abbrev pub is_read_attr : Name → Bool
is_read_attr name = (nat_le 8 name.0 && nat_le name.0 18) || (nat_le 20 name.0 && nat_le name.0 24)

-- the source file of a file; that of an expansion is file 0
abbrev pub source_file : HirFileId → FileId
source_file (File file) = file
source_file (Macro call) = record { 0 = 0 }

-- where a path leads, by the paths of a file, if it has any
abbrev pub path_in : {Y S : Type 0} → Option (IndexMap (String Y) FileId S) → List ℕ → Option FileId
path_in None path = None
path_in (Some paths) path = get_by_text paths path

-- where each path leads from each file
abbrev pub leads : {Y S R : Type 0} → IndexMap FileId (IndexMap (String Y) FileId S) R → FileId → List ℕ → Option FileId
leads paths anchor path = path_in (get file_id_eq paths anchor) path

-- all answers
abbrev pub answers_of : Database → Oracle
answers_of s =
    record {
      item_tree = get tree_eq s.files.trees;
      crate_data = get crate_eq s.crates.known;
      crate_def_map = λ krate. option_map view_of (get crate_eq s.crates.maps krate);
      outer_map = λ block. option_map view_of (get block_eq s.crates.outer_maps block);
      local_def_map = λ krate. option_map local_view (get crate_eq s.crates.local_maps krate);
      resolve_path = leads s.files.paths;
      original_file = source_file;
      expansion_depth = λ file. unwrap_or (get file_eq s.files.depths file) 0;
      asked_paths = λ query. query.path ∷ [];
      macro_call = call_answer (said_at position_eq s.calls.answers);
      make_attr_call = attr_call (said_at position_eq s.calls.attrs);
      make_derive_call = derive_call (said_at derive_place_eq s.calls.derives);
      is_include = contains call_eq s.calls.includes;
      enum_variants = λ loc. option_map (λ v. v.items) (get position_eq s.types.variants loc.position);
      assoc_items = λ owner. get assoc_key_eq s.types.assoc_items (assoc_key owner);
      rule_styles = λ position krate. unwrap_or (get position_eq s.calls.styles position) fn_like;
      proc_macros = λ krate. option_map_or (λ v. v.items) (get crate_eq s.crates.proc_macros krate) [];
      find_builtin_macro = λ name. get is_name s.builtins.macros name;
      find_builtin_derive = λ name. get is_name s.builtins.derives name;
      find_builtin_attr = λ name. get is_name s.builtins.attrs name;
      builtin_type = λ name. get is_name s.types.builtin name;
      is_builtin_attr = λ name. is_read_attr name || contains is_name s.builtins.inert name;
      has_builtin_derive_impl = λ derive. is_some (get nat_eq s.builtins.derive_traits derive);
      derive_traits = λ derive. option_map_or (λ v. v.items) (get nat_eq s.builtins.derive_traits derive) [];
      cfg_flag = λ krate name. contains flag_eq s.crates.flags (record { krate = krate; name = name });
      builtin_derive_fast_path = s.builtins.derive_fast_path;
      expand_proc_attr_macros = s.calls.expand_proc_attr_macros;
    }

-- what its finished maps show beside what paths read
abbrev pub states_of : Database → MapStates
states_of s = record { of_crate = λ krate. option_map state_of (get crate_eq s.crates.maps krate); of_block = λ block. option_map state_of (get block_eq s.crates.outer_maps block) }

-- the answers of a database that knows nothing: a macro call that finds its macro gives nothing
abbrev pub nothing_known : Oracle
nothing_known =
    record {
      item_tree = λ id. None;
      crate_data = λ krate. None;
      crate_def_map = λ krate. None;
      outer_map = λ block. None;
      local_def_map = λ krate. None;
      resolve_path = λ anchor path. None;
      original_file = source_file;
      expansion_depth = λ file. 0;
      asked_paths = λ query. query.path ∷ [];
      macro_call = call_answer (λ position macro_id. None);
      make_attr_call = λ query. no_call;
      make_derive_call = λ query. no_call;
      is_include = λ call. false;
      enum_variants = λ loc. None;
      assoc_items = λ owner. None;
      rule_styles = λ position krate. fn_like;
      proc_macros = λ krate. [];
      find_builtin_macro = λ name. None;
      find_builtin_derive = λ name. None;
      find_builtin_attr = λ name. None;
      builtin_type = λ name. None;
      is_builtin_attr = is_read_attr;
      has_builtin_derive_impl = λ derive. false;
      derive_traits = λ derive. [];
      cfg_flag = λ krate name. false;
      builtin_derive_fast_path = false;
      expand_proc_attr_macros = false;
    }
