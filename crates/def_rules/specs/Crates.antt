-- What is known of a crate before its items: what its root file says, the crates that it depends on, and its prelude.
use Rattle.std.specs.Prelude.{ℕ, ◌^◌, Bool, true, false, cond, not, ◌&&◌, ◌||◌, nat_lt, List, [], ◌∷◌, ◌++◌, Option, None, Some, is_some, option_and_then, option_map, unwrap_or, bytes_eq, codes}
use Rattle.std.specs.Option.{option_map_or, option_or}
use Rattle.std.specs.Str.{all_ascii_digits}
use Rattle.std.specs.Str.Parse.{digits_value, without_leading_plus}
use Rattle.item_tree.specs.declared.attrs.Attr.{Attr}
use Rattle.tree_ids.specs.declared.ids.Crate.{Crate}
use Rattle.tree_ids.specs.declared.ids.SyntaxContext.{SyntaxContext}
use Rattle.tree_ids.specs.declared.ids.TreeId.{TreeId}
use Rattle.item_tree.specs.declared.mod_path.ModPath.{ModPath}
use Rattle.item_tree.specs.declared.mod_path.PathKind.{PathKind}
use Rattle.item_tree.specs.declared.mod_path.PathKind.TheVariants.{Plain, Abs}
use Rattle.tree_ids.specs.declared.name.Name.{Name}
use Rattle.item_tree.specs.Attrs.{attrs_in, has_key, text_of, tokens_of}
use Rattle.item_tree.specs.KnownNames as known
use Rattle.item_tree.specs.Lists.{only_of_list}
use Rattle.item_tree.specs.TokenTrees.{TokenTrees, elements, element_ident}
use Rattle.def_ids.specs.declared.ids.ModuleId.{ModuleId}
use Rattle.def_ids.specs.declared.edition.Edition.{Edition}
use Rattle.def_ids.specs.declared.edition.Edition.TheVariants.{Edition2015, Edition2018, Edition2021, Edition2024}
use Rattle.def_ids.specs.Ids.{crate_root}
use Rattle.def_bindings.specs.Content.{is_name}
use Rattle.def_oracle.specs.declared.source_database.Dependency.{Dependency}
use Rattle.def_oracle.specs.declared.source_database.LangCrate.{LangCrate}
use Rattle.def_oracle.specs.declared.source_database.LangCrate.TheVariants.{Core, Std}
use Rattle.def_modules.specs.MapState.{CrateState}
use Rattle.def_modules.specs.MapView.{ExternCrateEntry, LocalView, empty_local}
use Rattle.def_oracle.specs.Oracle.{Oracle}
use Rattle.def_paths.specs.Paths.{for_module, module_found, resolve}
use Rattle.def_modules.specs.Updates.{set_where}
use Rattle.def_rules.specs.State.{State, root, world}

-- Attributes of the root file

-- the attributes of a whole tree, also of one that cfg disables; a tree that is not there has none
abbrev pub tree_attrs : Oracle → TreeId → List Attr
tree_attrs oracle tree = unwrap_or (option_map (λ t. (attrs_in t.attrs).list) (oracle.item_tree tree)) []

-- the number that digits write, if there are any and it has 32 bits
abbrev pub digits_u32 : List ℕ → Option ℕ
digits_u32 [] = None
digits_u32 (c ∷ cs) = cond (all_ascii_digits (c ∷ cs) && nat_lt (digits_value 10 (c ∷ cs)) (2 ^ 32)) (Some (digits_value 10 (c ∷ cs))) None

-- the number of 32 bits that a text reads as; a plus may stand first
abbrev pub read_u32 : List ℕ → Option ℕ
read_u32 text = digits_u32 (without_leading_plus text)

-- `recursion_limit` sets the limit where its text is such a number
abbrev pub with_limit : Option ℕ → CrateState → CrateState
with_limit limit c = record c { recursion_limit = option_or limit c.recursion_limit }

-- the features with one more, if there is one
abbrev pub with_named : Option Name → (Name → Bool) → Name → Bool
with_named None features = features
with_named (Some name) features = set_where (is_name name) true features

-- the features with each listed path of one segment
abbrev pub enabled : List (ModPath × SyntaxContext) → (Name → Bool) → Name → Bool
enabled [] features = features
enabled (listed ∷ rest) features = enabled rest (with_named (only_of_list listed.0.segments) features)

-- `feature` enables what it lists
abbrev pub with_features : List (ModPath × SyntaxContext) → CrateState → CrateState
with_features listed c = record c { features = enabled listed c.features }

-- an identifier that stands alone
abbrev pub lone_ident : TokenTrees → Option Name
lone_ident tokens = option_and_then element_ident (only_of_list (elements tokens))

-- `register_tool` adds the tool that stands alone in it
abbrev pub with_tool : Option Name → CrateState → CrateState
with_tool None c = c
with_tool (Some tool) c = record c { tools = c.tools ++ tool ∷ [] }

-- what one attribute of the root file sets
abbrev pub after_attr : Attr → CrateState → CrateState
after_attr attr c =
    cond (has_key known.recursion_limit_name attr) (with_limit (option_and_then read_u32 (text_of attr)) c)
    (cond (has_key known.no_core_name attr) (record c { no_core = true })
    (cond (has_key known.no_std_name attr) (record c { no_std = true })
    (cond (has_key known.rustc_coherence_is_core_name attr) (record c { coherence_is_core = true })
    (cond (has_key known.feature_name attr) (with_features (unwrap_or attr.paths []) c)
    (cond (has_key known.register_tool_name attr) (with_tool (option_and_then lone_ident (tokens_of attr)) c)
    c)))))

-- what the attributes of the root file set, in order
abbrev pub after_attrs : List Attr → CrateState → CrateState
after_attrs [] c = c
after_attrs (attr ∷ attrs) c = after_attrs attrs (after_attr attr c)

-- `crate_type = "proc-macro"` says that a crate is one of procedural macros
abbrev pub says_proc_macro : Attr → Bool
says_proc_macro attr = has_key known.crate_type_name attr && option_map_or (λ text. bytes_eq text (codes "proc-macro")) (text_of attr) false

-- so may a crate's data
abbrev pub is_proc_macro_crate : Oracle → Crate → Bool
is_proc_macro_crate oracle krate = option_map_or (λ data_of. data_of.proc_macro) (oracle.crate_data krate) false

-- Dependencies

-- the crates that a crate depends on; none of a crate that is not known
abbrev pub deps_of : Oracle → Crate → List Dependency
deps_of oracle krate = option_map_or (λ data_of. data_of.deps) (oracle.crate_data krate) []

-- the names of crates with one dependency more, which takes the place of an earlier one of its name
abbrev pub with_dep : Dependency → LocalView → LocalView
with_dep dep known = record { extern_prelude = set_where (is_name dep.name) (Some (record { root = crate_root dep.krate; by = None })) known.extern_prelude }

-- the names of crates with all these dependencies, in order
abbrev pub with_all_deps : List Dependency → LocalView → LocalView
with_all_deps [] known = known
with_all_deps (dep ∷ deps) known = with_all_deps deps (with_dep dep known)

-- the crates that a crate depends on, by their names
abbrev pub deps_by_name : Oracle → Crate → LocalView
deps_by_name oracle krate = with_all_deps (deps_of oracle krate) empty_local

-- which crate of the language a crate is, if it is one
abbrev pub lang_of : Oracle → Crate → Option LangCrate
lang_of oracle krate = option_and_then (λ data_of. data_of.lang) (oracle.crate_data krate)

-- a crate of the language that a crate does without
abbrev pub is_left_out : CrateState → Option LangCrate → Bool
is_left_out c None = false
is_left_out c (Some Core) = c.no_core
is_left_out c (Some Std) = c.no_core || c.no_std

-- whether paths may begin with a dependency: one that is marked so, unless it comes with the compiler and is left out
abbrev pub is_named : Oracle → CrateState → Dependency → Bool
is_named oracle c dep = dep.prelude && not (dep.sysroot && is_left_out c (lang_of oracle dep.krate))

-- what the name of a dependency leads to: its root, or nothing
abbrev pub named_entry : Oracle → CrateState → Dependency → Option ExternCrateEntry
named_entry oracle c dep = cond (is_named oracle c dep) (Some (record { root = crate_root dep.krate; by = None })) None

-- the names of crates with one dependency more, which takes the place of an earlier one of its name
abbrev pub after_dep : Oracle → CrateState → Dependency → LocalView → LocalView
after_dep oracle c dep local = record { extern_prelude = set_where (is_name dep.name) (named_entry oracle c dep) local.extern_prelude }

-- the names of crates with these dependencies, in order
abbrev pub after_deps : Oracle → CrateState → List Dependency → LocalView → LocalView
after_deps oracle c [] local = local
after_deps oracle c (dep ∷ deps) local = after_deps oracle c deps (after_dep oracle c dep local)

-- The prelude

-- the module of an edition in the prelude's crate
abbrev pub edition_name : Edition → Name
edition_name Edition2015 = known.rust_2015_name
edition_name Edition2018 = known.rust_2018_name
edition_name Edition2021 = known.rust_2021_name
edition_name Edition2024 = known.rust_2024_name

-- the prelude's path is plain in edition 2015, and else absolute
abbrev pub prelude_kind : Edition → PathKind
prelude_kind Edition2015 = Plain
prelude_kind Edition2018 = Abs
prelude_kind Edition2021 = Abs
prelude_kind Edition2024 = Abs

-- the crate of the prelude: `core` with `no_std`; else `std`, or `core` where paths may not begin with `std`
abbrev pub prelude_crate : Bool → LocalView → Name
prelude_crate no_std names = cond no_std known.core_name (cond (is_some (names.extern_prelude known.std_name)) known.std_name known.core_name)

-- the path of the prelude, by the edition, whether the crate does without `std`, and the names of crates that its paths may begin with
abbrev pub prelude_path : Edition → Bool → LocalView → ModPath
prelude_path edition no_std names = record { kind = prelude_kind edition; segments = prelude_crate no_std names ∷ known.prelude_name ∷ edition_name edition ∷ [] }

-- the prelude: the module that this path gives, if it gives one; none with `no_core`
abbrev pub prelude_module : Oracle → State → Option ModuleId
prelude_module oracle s =
    cond s.map.krate.no_core None
    (module_found (resolve (world oracle s) for_module (root s.map) (prelude_path s.map.krate.edition s.map.krate.no_std (unwrap_or s.outer s.local))))
