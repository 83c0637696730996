-- The start of a run.
use Rattle.std.specs.Prelude.{ℕ, Bool, true, false, List, [], ◌∷◌, ◌++◌, ◌||◌, cond, Option, None, Some, is_some}
use Rattle.std.specs.List.{list_any}
use Rattle.item_tree.specs.declared.attrs.Attr.{Attr}
use Rattle.tree_ids.specs.declared.ids.CfgExpr.{CfgExpr}
use Rattle.tree_ids.specs.declared.ids.HirFileId.TheVariants.{File}
use Rattle.tree_ids.specs.declared.ids.ModItemId.{ModItemId}
use Rattle.tree_ids.specs.declared.ids.TreeId.{TreeId}
use Rattle.def_ids.specs.declared.ids.MapId.{MapId}
use Rattle.def_ids.specs.declared.ids.ModuleId.{ModuleId}
use Rattle.def_interner.specs.Session.{Session}
use Rattle.def_bindings.specs.Content.{empty}
use Rattle.def_oracle.specs.declared.source_database.CrateData.{CrateData}
use Rattle.def_modules.specs.MapState.{CrateState, MapState}
use Rattle.def_modules.specs.MapView.{LocalView, empty_local}
use Rattle.def_oracle.specs.Oracle.{Oracle}
use Rattle.def_readings.specs.Directories.{root_directory}
use Rattle.def_rules.specs.declared.diagnostics.DefDiagnostic.{DefDiagnostic}
use Rattle.def_rules.specs.declared.diagnostics.DefDiagnosticKind.TheVariants.{UnconfiguredCode}
use Rattle.def_rules.specs.State.{Setting, State, Site, Task, Moment, root, module_site}
use Rattle.def_rules.specs.Crates.{after_attrs, after_deps, deps_by_name, deps_of, is_proc_macro_crate, prelude_module, says_proc_macro, tree_attrs}
use Rattle.def_rules.specs.Items.{walk, top_items, tree_cfg}

-- a run's state before anything
abbrev pub seeded_state : Setting → Session → State
seeded_state w session =
    record {
      session = session;
      map = w.seeded;
      content = empty;
      targets = λ glob. None;
      local = empty_local;
      outer = w.crate_local;
      deps = deps_by_name w.oracle w.seeded.id.krate;
      missing_crates = λ name. false;
      is_proc_macro = is_proc_macro_crate w.oracle w.seeded.id.krate;
      directories = λ at. None;
      imports = [];
      skipped = λ file id. None;
      active = λ position. [];
      deferred = [];
      macros = [];
      inner_calls = [];
      expansions = [];
      diagnostics = [];
    }

-- the tree of the root file that a crate's data name, else the one that is handed in
abbrev pub root_tree : TreeId → Option CrateData → TreeId
root_tree tree None = tree
root_tree tree (Some known) = record { file = File known.root_file; block = None }

-- the tree whose top items are walked first: that of the crate's root file, or of the block
abbrev pub first_tree : Oracle → MapId → TreeId → TreeId
first_tree oracle id tree = cond (is_some id.block) tree (root_tree tree (oracle.crate_data id.krate))

-- how deep in expansions of macros the top items of a tree are walked: a block's as deep as its file
abbrev pub first_depth : Oracle → MapId → TreeId → ℕ
first_depth oracle id tree = cond (is_some id.block) (oracle.expansion_depth tree.file) 0

-- where the top items of a tree stand: in the map's root, and its directory
abbrev pub site_at : Oracle → MapState → TreeId → Site
site_at oracle m tree = module_site (root m) tree (first_depth oracle m.id tree) root_directory

-- where the first items stand
abbrev pub first_site : Oracle → MapState → TreeId → Site
first_site oracle m tree = site_at oracle m (first_tree oracle m.id tree)

-- the first list is walked, unless cfg disables its tree
abbrev pub first_walk : Oracle → Site → List ModItemId → Option CfgExpr → List Task
first_walk oracle site ids None = walk oracle site ids
first_walk oracle site ids (Some cfg) = []

-- the walk of the top items of the root file or the block
abbrev pub first_tasks : Oracle → MapState → TreeId → List Task
first_tasks oracle m tree =
    first_walk oracle (first_site oracle m tree) (top_items oracle (first_tree oracle m.id tree)) (tree_cfg oracle (first_tree oracle m.id tree))

-- a root file that cfg disables, at its first number
abbrev pub root_disabled : ModuleId → TreeId → CfgExpr → DefDiagnostic
root_disabled at tree cfg = record { «module» = at; ast_id = record { file = tree.file; value = record { 0 = 0 } }; kind = UnconfiguredCode cfg }

-- what is reported before the walk: a crate's root file that cfg disables; of a block nothing
abbrev pub first_reports : MapState → TreeId → Bool → Option CfgExpr → List DefDiagnostic
first_reports m tree in_block None = []
first_reports m tree true (Some cfg) = []
first_reports m tree false (Some cfg) = root_disabled (root m) tree cfg ∷ []

-- what is known of a crate before its items: its data, its prelude, whether it is one of procedural macros, and the names of crates
pub record Head : Type 0 where
  pub krate : CrateState
  pub prelude : Option ModuleId
  pub is_proc_macro : Bool
  pub local : LocalView

-- what a state knows of its crate
abbrev pub head_of : State → Head
head_of s = record { krate = s.map.krate; prelude = s.map.prelude; is_proc_macro = s.is_proc_macro; local = s.local }

-- the state that knows this, and is the same in all else
abbrev pub with_head : State → Head → State
with_head s h = record s { map = record s.map { krate = h.krate; prelude = h.prelude }; is_proc_macro = h.is_proc_macro; local = h.local }

-- the head with the prelude that is found with it
abbrev pub with_prelude : Oracle → State → Head → Head
with_prelude oracle s h = record h { prelude = prelude_module oracle (with_head s h) }

-- what the attributes of its root file say of a crate
abbrev pub with_attrs : List Attr → Head → Head
with_attrs attrs h = record h { krate = after_attrs attrs h.krate; is_proc_macro = h.is_proc_macro || list_any says_proc_macro attrs }

-- the names of the crates that a crate depends on
abbrev pub with_deps : Oracle → State → Head → Head
with_deps oracle s h = record h { local = after_deps oracle h.krate (deps_of oracle s.map.id.krate) h.local }

-- a crate's head: its attributes, its dependencies and then its prelude
abbrev pub crate_head : Oracle → List Attr → State → Head
crate_head oracle attrs s = with_prelude oracle s (with_deps oracle s (with_attrs attrs (head_of s)))

-- a block has its crate's data, and finds its own prelude, unless cfg disables it
abbrev pub block_head : Oracle → Option CfgExpr → State → Head
block_head oracle None s = with_prelude oracle s (head_of s)
block_head oracle (Some cfg) s = head_of s

-- what is known before the first item
abbrev pub first_head : Oracle → List Attr → Option CfgExpr → State → Head
first_head oracle attrs cfg s = cond (is_some s.map.id.block) (block_head oracle cfg s) (crate_head oracle attrs s)

-- the state that knows this of the first tree
abbrev pub informed : Oracle → TreeId → State → State
informed oracle first s = with_head s (first_head oracle (tree_attrs oracle first) (tree_cfg oracle first) s)

-- the state with what is reported before the walk
abbrev pub told : Oracle → MapState → TreeId → State → State
told oracle m tree s =
    record s { diagnostics = s.diagnostics ++ first_reports m (first_tree oracle m.id tree) (is_some m.id.block) (tree_cfg oracle (first_tree oracle m.id tree)) }

-- the state in which the first item is visited
abbrev pub started : Oracle → TreeId → State → State
started oracle tree s = told oracle s.map tree (informed oracle (first_tree oracle s.map.id tree) s)

-- the moment that a run begins with: the top items are to be walked
abbrev pub start : Setting → Session → Moment
start w session =
    record { tasks = first_tasks w.oracle w.seeded w.tree; state = started w.oracle w.tree (seeded_state w session); events = [] }
