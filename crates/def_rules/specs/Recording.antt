-- How an import is recorded: what that leads to, and what stays of it.
use Rattle.std.specs.Prelude.{◌≡◌, Bool, true, false, ◌==◌, List, [], ◌∷◌, ◌++◌, Option, None, Some, option_map, IsPermutation, Contains}
use Rattle.std.specs.List.{flat_map}
use Rattle.std.specs.Option.{option_or}
use Rattle.item_tree.specs.declared.items.ImportKind.{ImportKind}
use Rattle.item_tree.specs.declared.items.ImportKind.TheVariants as kind
use Rattle.def_ids.specs.declared.ids.Def.{Def}
use Rattle.def_ids.specs.declared.ids.Def.TheVariants as def
use Rattle.def_ids.specs.declared.ids.GlobId.{GlobId}
use Rattle.def_ids.specs.declared.ids.MapId.{MapId}
use Rattle.def_ids.specs.declared.ids.ModuleId.{ModuleId}
use Rattle.def_bindings.specs.declared.bindings.EdgeTo.{EdgeTo}
use Rattle.def_bindings.specs.declared.visibility.Visibility.{Visibility}
use Rattle.def_bindings.specs.Visibility.{order_over}
use Rattle.def_modules.specs.MapState.{MapState}
use Rattle.def_paths.specs.declared.path_result.ResolvePathResult.{ResolvePathResult}
use Rattle.def_oracle.specs.Oracle.{Oracle}
use Rattle.def_paths.specs.Answers.{variants_of}
use Rattle.def_sources.specs.Sources.{World}
use Rattle.def_paths.specs.Paths.{for_import, map_of, question}
use Rattle.def_rules.specs.State.{State, Effect, IsBare, followed_by, Import, ImportDirective, NsSet, Task, AddEdge, Recorded, noting, put_each, world, order}
use Rattle.def_rules.specs.Globs.{Targets, module_entries, variant_entries, with_target}
use Rattle.def_rules.specs.Imports.{answer_now, bound_name, import_vis, is_foreign, is_ready, kept_after, kept_item, named_entries}

-- a glob import's number
abbrev pub glob_id : Import → GlobId
glob_id import = record { use_id = import.use_id; idx = import.written.idx }

-- a glob import with its visibility, as its edge keeps it
abbrev pub glob_edge : Import → Visibility → EdgeTo Visibility
glob_edge import vis = record { importer = import.scope; vis = vis; glob = glob_id import }

-- the definition that an import's path gives in types, if it is kept
abbrev pub types_def : ResolvePathResult → Option Def
types_def answer = option_map (λ item. item.def) (kept_item answer answer.resolved_def.types)

-- whether a module is of a map's crate
abbrev pub is_own_crate : MapId → ModuleId → Bool
is_own_crate id source = source.map.krate.0 == id.krate.0

-- the module that a definition is, if it is to be the prelude
abbrev pub module_if : Bool → Option Def → Option ModuleId
module_if true (Some (def.Module source)) = Some source
module_if prelude given = None

-- the module that a glob of an item with `#[prelude_import]` makes the prelude, if it leads to one
abbrev pub made_prelude : ImportKind → Bool → Option Def → Option ModuleId
made_prelude kind.Plain prelude given = None
made_prelude kind.TypeOnly prelude given = None
made_prelude kind.Glob prelude given = module_if prelude given

-- the module that an import makes the prelude, if it makes one
abbrev pub new_prelude : Import → ResolvePathResult → Option ModuleId
new_prelude import answer = made_prelude import.written.kind import.is_prelude (types_def answer)

-- a definition, unless it became the prelude
abbrev pub unless_prelude : Option ModuleId → Option Def → Option Def
unless_prelude None given = given
unless_prelude (Some source) given = None

-- what a glob is recorded with: what its path gives in types, unless that became the prelude
abbrev pub glob_def : Import → ResolvePathResult → Option Def
glob_def import answer = unless_prelude (new_prelude import answer) (types_def answer)

-- the map with this prelude in the place of an earlier one, if there is one
abbrev pub with_new_prelude : Option ModuleId → MapState → MapState
with_new_prelude made m = record m { prelude = option_or made m.prelude }

-- a module of this crate gets an edge once its entries are put; one of another crate none
abbrev pub edge_tasks : Bool → ModuleId → EdgeTo Visibility → List Task
edge_tasks true source glob = AddEdge source glob ∷ []
edge_tasks false source glob = []

-- what a glob of a definition leads to: the entries of a module or of an enum's variants; all else has none
abbrev pub glob_tasks : World → EdgeTo Visibility → Option Def → List Task
glob_tasks w glob (Some (def.Module source)) =
    let own = is_own_crate w.map.facts.id source in
    put_each glob.importer (module_entries (order_over w.map.facts.chain) glob own (map_of w source.map) source) ++ edge_tasks own source glob
glob_tasks w glob (Some (def.Enum id)) =
    put_each glob.importer (flat_map (variant_entries (order_over w.map.facts.chain) glob) (variants_of (question w for_import) id.0))
glob_tasks w glob _ = []

-- what a recorded import leads to, by its kind
abbrev pub record_tasks : Oracle → State → Import → ResolvePathResult → ImportKind → List Task
record_tasks oracle s import answer kind.Plain =
    put_each import.scope (named_entries (order s) import (import_vis oracle s import) answer (bound_name import.written))
record_tasks oracle s import answer kind.TypeOnly =
    put_each import.scope (named_entries (order s) import (import_vis oracle s import) answer (bound_name import.written))
record_tasks oracle s import answer kind.Glob = glob_tasks (world oracle s) (glob_edge import (import_vis oracle s import)) (glob_def import answer)

-- a glob is recorded with the definition that its path gives
abbrev pub targets_after : ImportKind → GlobId → Option Def → Targets → Targets
targets_after kind.Plain glob given targets = targets
targets_after kind.TypeOnly glob given targets = targets
targets_after kind.Glob glob None targets = targets
targets_after kind.Glob glob (Some d) targets = with_target glob d targets

-- the state in which an import was recorded with what its path gives, and nothing is put yet
abbrev pub record_state : State → Import → ResolvePathResult → State
record_state s import answer =
    record s {
      targets = targets_after import.written.kind (glob_id import) (glob_def import answer) s.targets;
      map = with_new_prelude (new_prelude import answer) s.map;
    }

-- an import is recorded with what its path gives
abbrev pub record_effect : Oracle → State → Import → ResolvePathResult → Effect
record_effect oracle s import answer = followed_by (record_state s import answer) (record_tasks oracle s import answer import.written.kind)

-- an import as a list, if it stays indeterminate
abbrev pub kept_list : Import → Option NsSet → List ImportDirective
kept_list import None = []
kept_list import (Some recorded) = record { import = import; recorded = recorded } ∷ []

-- the state in which an import leaves, or stays with more namespaces
abbrev pub after_import : State → ImportDirective → List ImportDirective → ResolvePathResult → State
after_import s directive rest answer = record s { imports = rest ++ kept_list directive.import (kept_after directive.recorded answer) }

-- what recording an import does, beside the imports that are left: it is noted, and recorded with what its path gives
abbrev pub import_effect : Oracle → State → ImportDirective → List ImportDirective → ResolvePathResult → Effect
import_effect oracle s directive rest answer =
    noting (Recorded directive.import (is_foreign answer)) (record_effect oracle (after_import s directive rest answer) directive.import answer)

-- where no call is left to be recorded, and no expansion to be walked, one import that is ready is recorded with what its path gives now
pub record ImportStep (oracle : Oracle) (s : State) (effect : Effect) : Type 0 where
  pub bare : IsBare s
  pub directive : ImportDirective
  pub rest : List ImportDirective
  pub stands : IsPermutation s.imports (directive ∷ rest)
  pub ready : is_ready directive.recorded (answer_now oracle s directive.import) ≡ true
  pub is : effect ≡ import_effect oracle s directive rest (answer_now oracle s directive.import)

-- no import is ready
pub record NoneReady (oracle : Oracle) (s : State) : Type 0 where
  pub none : (directive : ImportDirective) → Contains s.imports directive → is_ready directive.recorded (answer_now oracle s directive.import) ≡ false
