-- What the worked rows share: an oracle that knows one tree, the setting of a crate in one file, and how runs go on.
use Rattle.std.proofs.Common.{ℕ, nat_lt, false, Some, None, Err, []}
use Rattle.item_tree.specs.declared.items.ImportKind.{ImportKind}
use Rattle.item_tree.specs.declared.items.RawVisibility.{RawVisibility}
use Rattle.item_tree.specs.declared.mod_path.ModPath.{ModPath}
use Rattle.tree_ids.specs.declared.name.Name.{Name}
use Rattle.item_tree.specs.declared.tree.ItemTree.{ItemTree}
use Rattle.def_ids.specs.declared.ids.Def.TheVariants.{Module as ModuleDef}
use Rattle.def_ids.specs.declared.ids.GlobId.{GlobId}
use Rattle.def_ids.specs.declared.ids.ItemContainerId.TheVariants.{Module}
use Rattle.def_ids.specs.declared.ids.MapId.{MapId}
use Rattle.def_ids.specs.declared.ids.ModuleId.{ModuleId}
use Rattle.def_ids.specs.declared.edition.Edition.TheVariants.{Edition2021}
use Rattle.def_interner.specs.Session.{ItemLoc}
use Rattle.def_bindings.specs.declared.bindings.Binding.{Binding}
use Rattle.def_bindings.specs.declared.bindings.Namespace.{Namespace}
use Rattle.def_bindings.specs.declared.visibility.Visibility.{Visibility}
use Rattle.def_bindings.specs.declared.visibility.Visibility.TheVariants.{Module as In}
use Rattle.def_modules.specs.MapState.{Position}
use Rattle.def_modules.specs.Fresh.{fresh_crate, fresh_state}
use Rattle.def_oracle.specs.Oracle.{Oracle}
use Rattle.def_rules.specs.Imports.{no_namespaces}
use Rattle.def_rules.specs.State.{Setting, Import, ImportDirective, NsSet}
use Rattle.def_runs.proofs.Tables.{Bound}
use Rattle.def_runs.proofs.Trees.{root_file}

-- an oracle that knows this tree, and the names with which every table begins as builtin attributes
abbrev pub knowing : ItemTree → Oracle
knowing tree =
    record {
      item_tree = λ id. Some tree;
      crate_data = λ krate. None;
      crate_def_map = λ krate. None;
      outer_map = λ block. None;
      local_def_map = λ krate. None;
      resolve_path = λ anchor path. None;
      original_file = λ file. record { 0 = 0 };
      expansion_depth = λ file. 0;
      asked_paths = λ call. [];
      macro_call = λ call found. Err (record { path = call.path });
      make_attr_call = λ call. record { 0 = 0 };
      make_derive_call = λ call. record { 0 = 0 };
      is_include = λ call. false;
      enum_variants = λ loc. None;
      assoc_items = λ owner. None;
      rule_styles = λ position krate. record { 0 = 0 };
      proc_macros = λ krate. [];
      find_builtin_macro = λ name. None;
      find_builtin_derive = λ name. None;
      find_builtin_attr = λ name. None;
      builtin_type = λ name. None;
      is_builtin_attr = λ name. nat_lt name.0 32;
      has_builtin_derive_impl = λ derive. false;
      derive_traits = λ derive. [];
      cfg_flag = λ krate name. false;
      builtin_derive_fast_path = false;
      expand_proc_attr_macros = false;
    }

-- the map of crate 0
abbrev pub own_map : MapId
own_map = record { krate = record { 0 = 0 }; block = None }

-- a module of it, by its number
abbrev pub module_at : ℕ → ModuleId
module_at n = record { map = own_map; index = n }

-- crate 0 in edition 2021, in file 0
abbrev pub crate_of : ItemTree → Setting
crate_of tree = record { oracle = knowing tree; seeded = fresh_state own_map [] (fresh_crate Edition2021); tree = root_file; crate_local = None }

-- the item of this number in file 0
abbrev pub position : ℕ → Position
position n = record { file = root_file.file; value = record { 0 = n } }

-- where the item of a number stands that a module contains
abbrev pub loc : ℕ → ℕ → ItemLoc
loc at n = record { container = Module (module_at at); position = position n }

-- the one import of a `use`: its module, its item and its `use` by their numbers, and what is written
abbrev pub import_of : ℕ → ℕ → ℕ → RawVisibility → ImportKind → ModPath → Import
import_of at item number vis kind path =
    record {
      scope = module_at at;
      position = position item;
      use_id = record { 0 = number };
      written = record { idx = 0; path = path; kind = kind; alias = None };
      vis = vis;
      is_prelude = false;
    }

-- an import that was recorded from these namespaces so far
abbrev pub recorded_from : NsSet → Import → ImportDirective
recorded_from recorded import = record { import = import; recorded = recorded }

-- an import of which nothing is recorded yet
abbrev pub not_recorded : Import → ImportDirective
not_recorded import = recorded_from no_namespaces import

-- its number as a glob
abbrev pub glob_of_use : ℕ → GlobId
glob_of_use number = record { use_id = record { 0 = number }; idx = 0 }

-- what a module binds
abbrev pub bound : ℕ → Name → Namespace → Binding Visibility → Bound
bound at name ns held = record { at = module_at at; name = name; ns = ns; held = held }

-- a module of the root, declared there without a visibility
abbrev pub module_in_root : ℕ → Binding Visibility
module_in_root n = record { def = ModuleDef (module_at n); vis = In (module_at 0); import = None }
