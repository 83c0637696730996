-- Maps as they are before anything is collected.
use Rattle.std.specs.Prelude.{◌≡◌, false, ℕ, List, [], ◌∷◌, Option, None, Some}
use Rattle.tree_ids.specs.declared.ids.BlockId.{BlockId}
use Rattle.tree_ids.specs.declared.name.Name.{Name}
use Rattle.def_ids.specs.declared.ids.MapId.{MapId}
use Rattle.def_ids.specs.declared.ids.ModuleId.{ModuleId}
use Rattle.def_ids.specs.declared.edition.Edition.{Edition}
use Rattle.def_bindings.specs.declared.visibility.Visibility.{Visibility}
use Rattle.def_bindings.specs.declared.visibility.Visibility.TheVariants.{Public}
use Rattle.def_bindings.specs.Content.{Content, empty}
use Rattle.def_modules.specs.declared.module_data.ModuleOrigin.{ModuleOrigin}
use Rattle.def_modules.specs.declared.module_data.ModuleOrigin.TheVariants.{CrateRoot, Block}
use Rattle.def_modules.specs.MapState.{CrateState, MapState}
use Rattle.def_modules.specs.Scopes.{empty_module}

-- a name by its number
abbrev name_of : ℕ → Name
name_of n = record { 0 = n }

-- the tools that need no declaration: clippy, rustfmt, diagnostic, miri and rust_analyzer
abbrev pub known_tools : List Name
known_tools = name_of 27 ∷ name_of 28 ∷ name_of 29 ∷ name_of 30 ∷ name_of 31 ∷ []

-- a crate of an edition of which nothing is known yet
abbrev pub fresh_crate : Edition → CrateState
fresh_crate edition =
    record {
      exported_helpers = λ id. None;
      macro_of_function = λ function. None;
      function_of_macro = λ id. None;
      tools = known_tools;
      features = λ name. false;
      coherence_is_core = false;
      no_core = false;
      no_std = false;
      edition = edition;
      recursion_limit = None;
    }

-- what a block's map takes over of its crate: all but the edition, which is said of the block
abbrev pub block_crate : Edition → CrateState → CrateState
block_crate edition c = record c { edition = edition }

-- what made the root of a map
abbrev pub root_origin : Option BlockId → ModuleOrigin
root_origin None = CrateRoot
root_origin (Some block) = Block

-- a map of one root, with nothing in it
abbrev pub fresh_state : MapId → List ModuleId → CrateState → MapState
fresh_state id containing krate =
    record {
      id = id;
      containing = containing;
      parents = None ∷ [];
      modules = empty_module None (root_origin id.block) Public ∷ [];
      krate = krate;
      prelude = None;
      macro_use = λ name. None;
      helpers = λ position. [];
      macro_at = λ position. None;
    }

-- the map with nothing in it that keeps what is around it and what is known of its crate
abbrev pub emptied : MapState → MapState
emptied s = fresh_state s.id s.containing s.krate

-- the fresh map with the same number and edition
abbrev pub fresh_by : Option BlockId → MapState → MapState
fresh_by None s = fresh_state s.id [] (fresh_crate s.krate.edition)
fresh_by (Some block) s = emptied s

-- a crate's map stands in no module, and nothing is known of its crate
pub record IsOfFreshCrate (s : MapState) : Type 0 where
  pub containing : s.containing ≡ []
  pub krate : s.krate ≡ fresh_crate s.krate.edition

-- nothing was collected in a map
pub record IsFresh (s : MapState) (content : Content Visibility) : Type 0 where
  pub state : s ≡ fresh_by s.id.block s
  pub bindings : content ≡ empty
