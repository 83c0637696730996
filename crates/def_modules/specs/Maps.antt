-- What a map shows, and what each write does to it.
use Rattle.std.specs.Prelude.{Bool, true, cond, nat_lt, if◌then◌else◌, List, [], ◌∷◌, ◌++◌, ◌-◌, ℕ, zero, suc, Option, None, Some, length, map, slice_get, unwrap_or}
use Rattle.std.specs.Option.{option_map_or}
use Rattle.indexmap.specs.IndexMap.{IndexMap, get}
use Rattle.indexmap.specs.IndexSet.{contains}
use Rattle.either.specs.declared.Either.TheVariants.{Right}
use Rattle.tree_ids.specs.declared.name.Name.{Name}
use Rattle.def_ids.specs.declared.ids.BuiltinDeriveImplId.{BuiltinDeriveImplId}
use Rattle.def_ids.specs.declared.ids.FunctionId.{FunctionId}
use Rattle.def_ids.specs.declared.ids.MacroId.{MacroId}
use Rattle.def_ids.specs.declared.ids.ProcMacroId.{ProcMacroId}
use Rattle.def_ids.specs.Equality.{macro_eq}
use Rattle.def_ids.specs.Ids.{is_same_map}
use Rattle.def_bindings.specs.Content.{is_name}
use Rattle.def_bindings.specs.Tree.{chain_of}
use Rattle.def_modules.specs.declared.def_map_crate_data.DefMapCrateData.{DefMapCrateData}
use Rattle.def_modules.specs.declared.def_map_crate_data.UnstableFeatures.{UnstableFeatures}
use Rattle.def_modules.specs.declared.map.DeriveHelper.{DeriveHelper}
use Rattle.def_modules.specs.declared.map.HelpersRange.{HelpersRange}
use Rattle.def_modules.specs.declared.map.MapData.{MapData}
use Rattle.def_modules.specs.Equality.{position_eq, function_eq, proc_macro_eq}
use Rattle.def_modules.specs.MapState.{ModuleState, CrateState, MapState, ShownHelper, Position}
use Rattle.def_modules.specs.MapView.{MapFacts}
use Rattle.def_modules.specs.Scopes.{module_state}
use Rattle.def_modules.specs.Updates.{set_where, update_at}

-- a helper as it is shown
abbrev pub helper_state : DeriveHelper → ShownHelper
helper_state h = record { name = h.name; macro_id = h.macro_id; by = h.by }

-- the helpers of each position
abbrev pub helpers_of : {S : Type 0} → IndexMap Position (List DeriveHelper) S → Position → List ShownHelper
helpers_of helpers position = option_map_or (map helper_state) (get position_eq helpers position) []

-- one helper of a position more, behind the others
abbrev pub with_last_helper : (Position → List ShownHelper) → Position → ShownHelper → Position → List ShownHelper
with_last_helper helpers position helper = set_where (position_eq position) (helpers position ++ helper ∷ []) helpers

-- the helpers that other crates see of each derive macro
abbrev pub exported_of : {S : Type 0} → IndexMap MacroId (List Name) S → MacroId → Option (List Name)
exported_of = get macro_eq

-- which features are enabled
abbrev pub features_of : UnstableFeatures → Name → Bool
features_of f = contains is_name f.names

-- what is known of a crate
abbrev pub crate_state : DefMapCrateData → CrateState
crate_state k =
    record {
      exported_helpers = exported_of k.exported_derives;
      macro_of_function = get function_eq k.fn_proc_macro_mapping;
      function_of_macro = get proc_macro_eq k.fn_proc_macro_mapping_back;
      tools = k.registered_tools;
      features = features_of k.unstable_features;
      coherence_is_core = k.rustc_coherence_is_core;
      no_core = k.no_core;
      no_std = k.no_std;
      edition = k.edition;
      recursion_limit = k.recursion_limit;
    }

-- what a map shows beside its bindings
abbrev pub map_state : MapData → MapState
map_state d =
    record {
      id = d.tree.map;
      containing = d.tree.containing;
      parents = d.tree.parents;
      modules = map module_state d.modules.items;
      krate = crate_state d.krate;
      prelude = d.prelude;
      macro_use = get is_name d.macro_use_prelude;
      helpers = helpers_of d.derive_helpers;
      macro_at = get position_eq d.macro_by_position;
    }

-- the first of a list
abbrev pub first_of_list : {X : Type 0} → List X → Option X
first_of_list xs = slice_get xs 0

-- a module's textual macros of a name, the last one first
abbrev pub textual_at : MapState → ℕ → Name → List MacroId
textual_at s index name = option_map_or (λ (m : ModuleState). m.textual name) (slice_get s.modules index) []

-- what paths read of what a map shows; a module of another map has no textual macros here
abbrev pub facts_in : MapState → MapFacts
facts_in s =
    record {
      id = s.id;
      edition = s.krate.edition;
      chain = chain_of s.id s.parents s.containing;
      containing = s.containing;
      prelude = s.prelude;
      textual_macro = λ at name. if is_same_map at.map s.id then first_of_list (textual_at s at.index name) else None;
      macro_use = s.macro_use;
      exported_helpers = s.krate.exported_helpers;
    }

-- what paths read of a map
abbrev pub facts_of : MapData → MapFacts
facts_of d = facts_in (map_state d)

-- one module changed, if it is there
abbrev pub with_module : MapState → ℕ → (ModuleState → ModuleState) → MapState
with_module s i f = record s { modules = update_at s.modules i f }

-- a parent's index, if it is there
abbrev pub known_parent : List (Option ℕ) → ℕ → Option ℕ
known_parent parents parent = cond (nat_lt parent (length parents)) (Some parent) None

-- one module more, with its parent
abbrev pub pushed : MapState → ℕ → ModuleState → MapState
pushed s parent m = record s { parents = s.parents ++ known_parent s.parents parent ∷ []; modules = s.modules ++ m ∷ [] }

-- one feature more
abbrev pub with_feature : CrateState → Name → CrateState
with_feature c name = record c { features = set_where (is_name name) true c.features }

-- one registered tool more
abbrev pub with_tool : CrateState → Name → CrateState
with_tool c tool = record c { tools = c.tools ++ tool ∷ [] }

-- the helpers that other crates see of a derive macro
abbrev pub with_exported : CrateState → MacroId → List Name → CrateState
with_exported c id helpers = record c { exported_helpers = set_where (macro_eq id) (Some helpers) c.exported_helpers }

-- a procedural macro and its function lead to each other
abbrev pub paired : CrateState → FunctionId → ProcMacroId → CrateState
paired c function id =
    record c {
      macro_of_function = set_where (function_eq function) (Some id) c.macro_of_function;
      function_of_macro = set_where (proc_macro_eq id) (Some function) c.function_of_macro;
    }

-- a position leads to a macro
abbrev pub with_macro_at : MapState → Position → MacroId → MapState
with_macro_at s position id = record s { macro_at = set_where (position_eq position) (Some id) s.macro_at }

-- a macro that an extern crate brought
abbrev pub with_macro_use : MapState → Name → MacroId → MapState
with_macro_use s name id = record s { macro_use = set_where (is_name name) (Some id) s.macro_use }

-- one helper attribute of a position more, behind the others
abbrev pub with_helper : MapState → Position → ShownHelper → MapState
with_helper s position helper = record s { helpers = with_last_helper s.helpers position helper }

-- a helper that an impl gave
abbrev pub given_by : BuiltinDeriveImplId → ShownHelper → ShownHelper
given_by id helper = record helper { by = Right id }

-- helpers of which those from a place on, so many, are an impl's
abbrev pub renamed_from : ℕ → ℕ → BuiltinDeriveImplId → List ShownHelper → List ShownHelper
renamed_from start count id [] = []
renamed_from zero zero id (helper ∷ helpers) = helper ∷ helpers
renamed_from zero (suc count) id (helper ∷ helpers) = given_by id helper ∷ renamed_from zero count id helpers
renamed_from (suc start) count id (helper ∷ helpers) = helper ∷ renamed_from start count id helpers

-- so those of a range
abbrev pub renamed_in : HelpersRange → BuiltinDeriveImplId → List ShownHelper → List ShownHelper
renamed_in range = renamed_from range.start (range.end - range.start)

-- the helpers of a position in a range, as those of an impl
abbrev pub with_renamed_helpers : MapState → Position → HelpersRange → BuiltinDeriveImplId → MapState
with_renamed_helpers s position range id = record s { helpers = set_where (position_eq position) (renamed_in range id (s.helpers position)) s.helpers }

-- how deep expansions may nest: 128 where the crate states nothing
abbrev pub limit_of : CrateState → ℕ
limit_of c = unwrap_or c.recursion_limit 128
