use Rattle.std.specs.Prelude.{[], is_some, nat_eq, option_map, unwrap_or}
use Rattle.std.specs.List.{list_any}
use Rattle.std.specs.Map.{lookup}
use Rattle.std.specs.Option.{option_map_or}
use Rattle.def_bindings.specs.Content.{is_name}
use Rattle.def_map.specs.DefMaps.{view_of}
use Rattle.def_modules.specs.Equality.{file_eq, position_eq}
use Rattle.def_modules.specs.Locals.{local_view}
use Rattle.def_database.specs.ByMacro.{said}
use Rattle.def_database.specs.Calls.{attr_call, call_answer, call_eq, derive_call, derive_place_eq, fn_like}
use Rattle.def_database.specs.Database.{assoc_key, assoc_key_eq, block_eq, crate_eq, file_id_eq, flag_eq, nothing_known, path_in, tree_eq}
use Rattle.def_database.proofs.FillingLemmas.{none_inert}
use Rattle.def_database.proofs.database.Database.new.Goals as goal

pub returns : goal.returns
returns c = λ i. record nothing_known {
  item_tree = λ id. lookup (tree_eq id) (c.new.ensures.empty i);
  crate_data = λ krate. lookup (crate_eq krate) (c.new-4.ensures.empty i);
  crate_def_map = λ krate. option_map view_of (lookup (crate_eq krate) (c.new-6.ensures.empty i));
  outer_map = λ block. option_map view_of (lookup (block_eq block) (c.new-8.ensures.empty i));
  local_def_map = λ krate. option_map local_view (lookup (crate_eq krate) (c.new-7.ensures.empty i));
  resolve_path = λ anchor path. path_in (lookup (file_id_eq anchor) (c.new-2.ensures.empty i)) path;
  expansion_depth = λ file. unwrap_or (lookup (file_eq file) (c.new-3.ensures.empty i)) 0;
  macro_call = call_answer (λ position macro_id. said (lookup (position_eq position) (c.new-18.ensures.empty i)) macro_id);
  make_attr_call = attr_call (λ position macro_id. said (lookup (position_eq position) (c.new-19.ensures.empty i)) macro_id);
  make_derive_call = derive_call (λ place macro_id. said (lookup (derive_place_eq place) (c.new-20.ensures.empty i)) macro_id);
  is_include = λ call. list_any (call_eq call) (c.new-21.ensures.empty i);
  enum_variants = λ loc. option_map (λ v. v.items) (lookup (position_eq loc.position) (c.new-10.ensures.empty i));
  assoc_items = λ owner. lookup (assoc_key_eq (assoc_key owner)) (c.new-11.ensures.empty i);
  rule_styles = λ position krate. unwrap_or (lookup (position_eq position) (c.new-22.ensures.empty i)) fn_like;
  proc_macros = λ krate. option_map_or (λ v. v.items) (lookup (crate_eq krate) (c.new-5.ensures.empty i)) [];
  find_builtin_macro = λ name. lookup (is_name name) (c.new-13.ensures.empty i);
  find_builtin_derive = λ name. lookup (is_name name) (c.new-14.ensures.empty i);
  find_builtin_attr = λ name. lookup (is_name name) (c.new-16.ensures.empty i);
  builtin_type = λ name. lookup (is_name name) (c.new-12.ensures.empty i);
  is_builtin_attr = none_inert c.new-17.result.keys c.new-17.ensures.empty i;
  has_builtin_derive_impl = λ derive. is_some (lookup (nat_eq derive) (c.new-15.ensures.empty i));
  derive_traits = λ derive. option_map_or (λ v. v.items) (lookup (nat_eq derive) (c.new-15.ensures.empty i)) [];
  cfg_flag = λ krate name. list_any (flag_eq (record { krate = krate; name = name })) (c.new-9.ensures.empty i);
}
