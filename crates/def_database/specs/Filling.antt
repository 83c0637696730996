-- What a database answers once something more is written down: what is given, and all else as before.
use Rattle.std.specs.Prelude.{ℕ, Bool, true, ◌&&◌, nat_eq, cond, List, Option, Some, bytes_eq}
use Rattle.either.specs.declared.Either.{Either}
use Rattle.tree_ids.specs.declared.ids.BlockId.{BlockId}
use Rattle.tree_ids.specs.declared.ids.Crate.{Crate}
use Rattle.tree_ids.specs.declared.ids.FileId.{FileId}
use Rattle.tree_ids.specs.declared.ids.HirFileId.{HirFileId}
use Rattle.tree_ids.specs.declared.ids.TreeId.{TreeId}
use Rattle.tree_ids.specs.declared.name.Name.{Name}
use Rattle.item_tree.specs.declared.tree.ItemTree.{ItemTree}
use Rattle.def_ids.specs.declared.expander.BuiltinAttr.{BuiltinAttr}
use Rattle.def_bindings.specs.Content.{is_name}
use Rattle.def_map.specs.DefMaps.{view_of}
use Rattle.def_map.specs.declared.def_map.DefMap.{DefMap}
use Rattle.def_modules.specs.declared.local_def_map.LocalDefMap.{LocalDefMap}
use Rattle.def_modules.specs.Equality.{file_eq, position_eq}
use Rattle.def_modules.specs.Locals.{local_view}
use Rattle.def_modules.specs.MapState.{Position}
use Rattle.def_modules.specs.Updates.{set_where}
use Rattle.def_map.specs.Oracle.{Oracle}
use Rattle.def_oracle.specs.declared.source_database.AssocItemsOwner.{AssocItemsOwner}
use Rattle.def_oracle.specs.declared.source_database.AssocList.{AssocList}
use Rattle.def_oracle.specs.declared.source_database.CrateData.{CrateData}
use Rattle.def_oracle.specs.declared.source_database.EnumVariant.{EnumVariant}
use Rattle.def_database.specs.Database.{block_eq, crate_eq, file_id_eq, owner_eq, tree_eq}

-- the items of a file or a block
abbrev pub with_tree : Oracle → TreeId → ItemTree → Oracle
with_tree o id tree = record o { item_tree = set_where (tree_eq id) (Some tree) o.item_tree }

-- where paths lead, once one more does
abbrev pub with_lead : (FileId → List ℕ → Option FileId) → FileId → List ℕ → FileId → FileId → List ℕ → Option FileId
with_lead leads from path to anchor text = cond (file_id_eq from anchor && bytes_eq path text) (Some to) (leads anchor text)

-- where a path leads from a file
abbrev pub with_path : Oracle → FileId → List ℕ → FileId → Oracle
with_path o from path to = record o { resolve_path = with_lead o.resolve_path from path to }

-- how deep in expansions of macros a file lies
abbrev pub with_depth : Oracle → HirFileId → ℕ → Oracle
with_depth o file depth = record o { expansion_depth = set_where (file_eq file) depth o.expansion_depth }

-- what is known of a crate
abbrev pub with_crate : Oracle → Crate → CrateData → Oracle
with_crate o krate known = record o { crate_data = set_where (crate_eq krate) (Some known) o.crate_data }

-- the procedural macros that were built for a crate
abbrev pub with_proc_macros : Oracle → Crate → List (Name × ℕ × Bool) → Oracle
with_proc_macros o krate macros = record o { proc_macros = set_where (crate_eq krate) macros o.proc_macros }

-- whether attribute macros are expanded
abbrev pub with_expand_proc_attr_macros : Oracle → Bool → Oracle
with_expand_proc_attr_macros o on = record o { expand_proc_attr_macros = on }

-- the finished maps of a crate
abbrev pub with_maps : Oracle → Crate → DefMap → LocalDefMap → Oracle
with_maps o krate m local =
    record o {
      crate_def_map = set_where (crate_eq krate) (Some (view_of m)) o.crate_def_map;
      local_def_map = set_where (crate_eq krate) (Some (local_view local)) o.local_def_map;
    }

-- the finished map of a block
abbrev pub with_outer_map : Oracle → BlockId → DefMap → Oracle
with_outer_map o block m = record o { outer_map = set_where (block_eq block) (Some (view_of m)) o.outer_map }

-- the variants of the enum at a position
abbrev pub with_variants : Oracle → Position → List EnumVariant → Oracle
with_variants o position variants = record o { enum_variants = λ loc. cond (position_eq position loc.position) (Some variants) (o.enum_variants loc) }

-- the items of a trait, an impl or an expansion
abbrev pub with_assoc_items : Oracle → AssocItemsOwner → AssocList → Oracle
with_assoc_items o owner items = record o { assoc_items = set_where (owner_eq owner) (Some items) o.assoc_items }

-- the builtin macro of a name
abbrev pub with_builtin_macro : Oracle → Name → Either ℕ ℕ → Oracle
with_builtin_macro o name found = record o { find_builtin_macro = set_where (is_name name) (Some found) o.find_builtin_macro }

-- the builtin derive of a name
abbrev pub with_builtin_derive : Oracle → Name → ℕ → Oracle
with_builtin_derive o name number = record o { find_builtin_derive = set_where (is_name name) (Some number) o.find_builtin_derive }

-- the traits of which a builtin derive gives impls with no expansion
abbrev pub with_derive_traits : Oracle → ℕ → List ℕ → Oracle
with_derive_traits o number traits =
    record o {
      has_builtin_derive_impl = set_where (nat_eq number) true o.has_builtin_derive_impl;
      derive_traits = set_where (nat_eq number) traits o.derive_traits;
    }

-- whether builtin derives give impls with no expansion where they can
abbrev pub with_derive_fast_path : Oracle → Bool → Oracle
with_derive_fast_path o on = record o { builtin_derive_fast_path = on }

-- the builtin attribute of a name
abbrev pub with_builtin_attr : Oracle → Name → BuiltinAttr → Oracle
with_builtin_attr o name attr = record o { find_builtin_attr = set_where (is_name name) (Some attr) o.find_builtin_attr }

-- the builtin type of a name
abbrev pub with_builtin : Oracle → Name → ℕ → Oracle
with_builtin o name number = record o { builtin_type = set_where (is_name name) (Some number) o.builtin_type }

-- one more attribute that is no macro
abbrev pub with_inert_attr : Oracle → Name → Oracle
with_inert_attr o name = record o { is_builtin_attr = set_where (is_name name) true o.is_builtin_attr }

-- one more condition under which a crate is compiled
abbrev pub with_flag : Oracle → Crate → Name → Oracle
with_flag o krate name = record o { cfg_flag = λ k n. cond (crate_eq krate k && is_name name n) true (o.cfg_flag k n) }
