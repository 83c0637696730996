-- A map that holds nothing, as it is kept and as it is shown.
use Rattle.std.proofs.Common.{◌≡◌, true, false, List, [], ◌∷◌, Option, Some, None, refl, sym, ap, ◌∙◌}
use Rattle.std.specs.Prelude.{unwrap_or, map}
use Rattle.std.specs.Option.{option_map_or}
use Rattle.std.proofs.lemmas.Bool.{eq-eqb}
use Rattle.indexmap.specs.IndexMap.{get}
use Rattle.tree_ids.specs.declared.ids.BlockId.{BlockId}
use Rattle.def_ids.specs.declared.ids.FunctionId.{FunctionId}
use Rattle.def_ids.specs.declared.ids.ProcMacroId.{ProcMacroId}
use Rattle.def_ids.specs.Equality.{macro_eq}
use Rattle.def_bindings.specs.Content.{is_name}
use Rattle.def_bindings.specs.DefLaws.{macro-refl}
use Rattle.def_bindings.specs.IdLaws.{name-refl}
use Rattle.def_bindings.specs.declared.visibility.Visibility.TheVariants.{Public}
use Rattle.def_modules.specs.declared.def_map_crate_data.DefMapCrateData.{DefMapCrateData}
use Rattle.def_modules.specs.declared.map.DeriveHelper.{DeriveHelper}
use Rattle.def_modules.specs.declared.map.MapData.{MapData}
use Rattle.def_modules.specs.Equality.{position_eq, function_eq, proc_macro_eq}
use Rattle.def_modules.specs.Fresh.{root_origin, known_tools, fresh_crate, fresh_state, emptied, fresh_by, IsOfFreshCrate}
use Rattle.def_modules.specs.MapState.{MapState, Position}
use Rattle.def_modules.specs.Maps.{map_state, crate_state, helper_state}
use Rattle.def_modules.specs.Scopes.{module_state, empty_module}
use Rattle.def_modules.proofs.BareLemmas.{position-refl}
use Rattle.def_modules.specs.EqualityLaws.{derived_position_eq, positions_same}
use Rattle.def_modules.proofs.FreshLemmas.{no_keys, keys_none, no_members, members_none}

-- a map holds nothing but what a block's takes over
pub record HoldsNothing (d : MapData) : Type 0 where
  pub parents : d.tree.parents ≡ None ∷ []
  pub modules : map module_state d.modules.items ≡ empty_module None (root_origin d.tree.map.block) Public ∷ []
  pub helpers : (k : Position) → unwrap_or (get derived_position_eq d.derive_helpers k) [] ≡ []
  pub macro_at : d.macro_by_position.entries ≡ []
  pub macro_use : d.macro_use_prelude.entries ≡ []
  pub prelude : d.prelude ≡ None

shown_none : (o : Option (List DeriveHelper)) → unwrap_or o [] ≡ [] → option_map_or (map helper_state) o [] ≡ []
shown_none None h = refl
shown_none (Some xs) h = ap (map helper_state) h

none_shown : (o : Option (List DeriveHelper)) → option_map_or (map helper_state) o [] ≡ [] → unwrap_or o [] ≡ []
none_shown None h = refl
none_shown (Some []) h = refl
none_shown (Some (x ∷ xs)) h = cc

module _ (d : MapData) where
  same_helpers : get derived_position_eq d.derive_helpers ≡ get position_eq d.derive_helpers
  same_helpers = ap (λ e. get e d.derive_helpers) positions_same

  pub state_from_nothing : HoldsNothing d → map_state d ≡ emptied (map_state d)
  state_from_nothing n = λ i. record (map_state d) {
    parents = n.parents i;
    modules = n.modules i;
    prelude = n.prelude i;
    macro_use = keys_none is_name name-refl d.macro_use_prelude n.macro_use i;
    helpers = λ k. (ap (λ f. option_map_or (map helper_state) (f k) []) (sym same_helpers) ∙ shown_none (get derived_position_eq d.derive_helpers k) (n.helpers k)) i;
    macro_at = keys_none position_eq position-refl d.macro_by_position n.macro_at i;
  }

  pub nothing_from_state : map_state d ≡ emptied (map_state d) → HoldsNothing d
  nothing_from_state h = record {
    parents = λ i. (h i).parents;
    modules = λ i. (h i).modules;
    helpers = λ k. none_shown (get derived_position_eq d.derive_helpers k) (ap (λ f. option_map_or (map helper_state) (f k) []) same_helpers ∙ (λ i. (h i).helpers k));
    macro_at = no_keys position_eq position-refl d.macro_by_position (λ i. (h i).macro_at);
    macro_use = no_keys is_name name-refl d.macro_use_prelude (λ i. (h i).macro_use);
    prelude = λ i. (h i).prelude;
  }

-- nothing is known of a crate
pub record KnowsNothing (k : DefMapCrateData) : Type 0 where
  pub exported : k.exported_derives.entries ≡ []
  pub macro_of_function : k.fn_proc_macro_mapping.entries ≡ []
  pub function_of_macro : k.fn_proc_macro_mapping_back.entries ≡ []
  pub tools : k.registered_tools ≡ known_tools
  pub features : k.unstable_features.names.keys ≡ []
  pub coherence : k.rustc_coherence_is_core ≡ false
  pub no_core : k.no_core ≡ false
  pub no_std : k.no_std ≡ false
  pub recursion_limit : k.recursion_limit ≡ None

function-refl : (f : FunctionId) → function_eq f f ≡ true
function-refl f = eq-eqb f.0 f.0 refl

proc_macro-refl : (p : ProcMacroId) → proc_macro_eq p p ≡ true
proc_macro-refl p = eq-eqb p.0 p.0 refl

module _ (k : DefMapCrateData) where
  pub state_of_unknown : KnowsNothing k → crate_state k ≡ fresh_crate k.edition
  state_of_unknown n = λ i. record {
    exported_helpers = keys_none macro_eq macro-refl k.exported_derives n.exported i;
    macro_of_function = keys_none function_eq function-refl k.fn_proc_macro_mapping n.macro_of_function i;
    function_of_macro = keys_none proc_macro_eq proc_macro-refl k.fn_proc_macro_mapping_back n.function_of_macro i;
    tools = n.tools i;
    features = members_none is_name name-refl k.unstable_features.names n.features i;
    coherence_is_core = n.coherence i;
    no_core = n.no_core i;
    no_std = n.no_std i;
    edition = k.edition;
    recursion_limit = n.recursion_limit i;
  }

  pub unknown_from_state : crate_state k ≡ fresh_crate k.edition → KnowsNothing k
  unknown_from_state h = record {
    exported = no_keys macro_eq macro-refl k.exported_derives (λ i. (h i).exported_helpers);
    macro_of_function = no_keys function_eq function-refl k.fn_proc_macro_mapping (λ i. (h i).macro_of_function);
    function_of_macro = no_keys proc_macro_eq proc_macro-refl k.fn_proc_macro_mapping_back (λ i. (h i).function_of_macro);
    tools = λ i. (h i).tools;
    features = no_members is_name name-refl k.unstable_features.names (λ i. (h i).features);
    coherence = λ i. (h i).coherence_is_core;
    no_core = λ i. (h i).no_core;
    no_std = λ i. (h i).no_std;
    recursion_limit = λ i. (h i).recursion_limit;
  }

-- a crate's map is fresh where it holds and knows nothing
pub crate_fresh : (s : MapState) → s ≡ emptied s → IsOfFreshCrate s → s ≡ fresh_by None s
crate_fresh s e k = e ∙ (λ i. fresh_state s.id (k.containing i) (k.krate i))

pub fresh_crate_parts : (s : MapState) → s ≡ fresh_by None s → (s ≡ emptied s) × IsOfFreshCrate s
fresh_crate_parts s h =
    let containing : s.containing ≡ [] = λ i. (h i).containing in
    let krate : s.krate ≡ fresh_crate s.krate.edition = λ i. (h i).krate in
    (h ∙ (λ i. fresh_state s.id (sym containing i) (sym krate i)), record { containing = containing; krate = krate })

-- a fresh map of any kind holds nothing
pub emptied_from_fresh : (s : MapState) (block : Option BlockId) → s ≡ fresh_by block s → s ≡ emptied s
emptied_from_fresh s None h = (fresh_crate_parts s h).0
emptied_from_fresh s (Some block) h = h
