-- Imports: their classes, when one is ready, and what recording one does.
use Rattle.std.specs.Prelude.{Bool, true, false, cond, ◌&&◌, ◌||◌, not, nat_eq, nat_lt, List, [], ◌∷◌, ◌++◌, length, filter, map, slice_get, ◌-◌, Option, None, Some, is_some, option_map, unwrap_or}
use Rattle.item_tree.specs.declared.items.ImportAlias.{ImportAlias}
use Rattle.item_tree.specs.declared.items.ImportAlias.TheVariants.{Alias, Underscore}
use Rattle.item_tree.specs.declared.items.ImportKind.{ImportKind}
use Rattle.item_tree.specs.declared.items.ImportKind.TheVariants as kind
use Rattle.item_tree.specs.declared.items.UseImport.{UseImport}
use Rattle.item_tree.specs.declared.mod_path.ModPath.{ModPath}
use Rattle.item_tree.specs.declared.mod_path.PathKind.{PathKind}
use Rattle.item_tree.specs.declared.mod_path.PathKind.TheVariants.{Plain, Super}
use Rattle.tree_ids.specs.declared.name.Name.{Name}
use Rattle.def_bindings.specs.declared.bindings.Entry.{Entry}
use Rattle.def_bindings.specs.declared.bindings.ImportOrExternCrate.{ImportOrExternCrate}
use Rattle.def_bindings.specs.declared.bindings.ImportOrExternCrate.TheVariants as made_by
use Rattle.def_bindings.specs.declared.bindings.Namespace.{Namespace}
use Rattle.def_bindings.specs.declared.bindings.Namespace.TheVariants.{Types, Values, Macros}
use Rattle.def_bindings.specs.declared.visibility.Visibility.{Visibility}
use Rattle.def_bindings.specs.declared.visibility.Visibility.TheVariants.{Public}
use Rattle.def_bindings.specs.Order.{Order}
use Rattle.def_bindings.specs.Puts.{lessened}
use Rattle.def_paths.specs.declared.path_result.ResolvePathResult.{ResolvePathResult}
use Rattle.def_sources.specs.declared.per_ns.PerNs.{PerNs}
use Rattle.def_oracle.specs.Oracle.{Oracle}
use Rattle.def_paths.specs.Answers.{is_reached}
use Rattle.def_paths.specs.Paths.{resolve, for_import, resolve_visibility}
use Rattle.def_sources.specs.PerNs.{Item, is_nothing, kept}
use Rattle.def_rules.specs.State.{State, Import, ImportDirective, NsSet, world, order}
use Rattle.def_rules.specs.Globs.{is_public}

-- nothing is recorded yet
abbrev pub no_namespaces : NsSet
no_namespaces = record { types = false; values = false; macros = false }

-- whether a set has no namespace
abbrev pub is_empty : NsSet → Bool
is_empty set = not (set.types || (set.values || set.macros))

-- the imports that are unresolved, in order: nothing was recorded of them
abbrev pub unresolved_imports : List ImportDirective → List Import
unresolved_imports directives = map (λ directive. directive.import) (filter (λ directive. is_empty directive.recorded) directives)

-- the namespaces that are there
abbrev pub given_set : PerNs → NsSet
given_set found = record { types = is_some found.types; values = is_some found.values; macros = is_some found.macros }

-- all three namespaces
abbrev pub is_full : NsSet → Bool
is_full set = set.types && (set.values && set.macros)

-- whether a prefix or everything is missing, or a segment is left
abbrev pub is_missing : ResolvePathResult → Bool
is_missing answer = not (is_reached answer.reached_fixedpoint) || (is_nothing answer.resolved_def || is_some answer.segment_index)

-- whether another crate was entered
abbrev pub is_foreign : ResolvePathResult → Bool
is_foreign answer = answer.prefix_info.differing_crate

-- what an import's path gives now
abbrev pub answer_now : Oracle → State → Import → ResolvePathResult
answer_now oracle s import = resolve (world oracle s) for_import import.scope import.written.path

-- the namespaces of either set
abbrev pub union : NsSet → NsSet → NsSet
union a b = record { types = a.types || b.types; values = a.values || b.values; macros = a.macros || b.macros }

-- whether the second set has a namespace that the first lacks
abbrev pub is_extended : NsSet → NsSet → Bool
is_extended recorded given = (given.types && not recorded.types) || ((given.values && not recorded.values) || (given.macros && not recorded.macros))

-- whether an import is ready: it is not missing, and is foreign or gives a namespace that it has not recorded
abbrev pub is_ready : NsSet → ResolvePathResult → Bool
is_ready recorded answer = not (is_missing answer) && (is_foreign answer || is_extended recorded (given_set answer.resolved_def))

-- an import stays indeterminate until it has recorded all three namespaces
abbrev pub kept_unless_full : NsSet → Option NsSet
kept_unless_full recorded = cond (is_full recorded) None (Some recorded)

-- what an import that is recorded stays indeterminate with, after what it had recorded; it is resolved where it is foreign or has all three namespaces
abbrev pub kept_after : NsSet → ResolvePathResult → Option NsSet
kept_after recorded answer = cond (is_foreign answer) None (kept_unless_full (union recorded (given_set answer.resolved_def)))

-- the visibility of an import; public where it means nothing
abbrev pub import_vis : Oracle → State → Import → Visibility
import_vis oracle s import = unwrap_or (resolve_visibility (world oracle s) import.scope import.vis) Public

-- the last segment of a path
abbrev pub last_segment : List Name → Option Name
last_segment segments = slice_get segments (length segments - 1)

-- the name that an alias gives; None is `_`
abbrev pub alias_name : ImportAlias → Option Name
alias_name (Alias name) = Some name
alias_name Underscore = None

-- the name that an import binds: its alias, else the last segment; the inner None is `_`
abbrev pub name_or : Option ImportAlias → List Name → Option (Option Name)
name_or (Some alias) segments = Some (alias_name alias)
name_or None segments = option_map (λ name. Some name) (last_segment segments)

-- the name that an import of this kind binds; a glob binds none of its own
abbrev pub name_by : ImportKind → Option ImportAlias → List Name → Option (Option Name)
name_by kind.Plain alias segments = name_or alias segments
name_by kind.TypeOnly alias segments = name_or alias segments
name_by kind.Glob alias segments = None

-- the name that an import binds
abbrev pub bound_name : UseImport → Option (Option Name)
bound_name import = name_by import.kind import.alias import.path.segments

-- what is kept of an answer: of another crate what is public
abbrev pub kept_item : ResolvePathResult → Option Item → Option Item
kept_item answer item = kept (λ i. not (is_foreign answer) || is_public i.vis) item

-- whether a namespace is types
abbrev pub is_types : Namespace → Bool
is_types Types = true
is_types Values = false
is_types Macros = false

-- the namespaces that an import's kind keeps
abbrev pub keeps_ns : ImportKind → Namespace → Bool
keeps_ns kind.Plain ns = true
keeps_ns kind.TypeOnly ns = is_types ns
keeps_ns kind.Glob ns = true

-- what brings an import's bindings
abbrev pub origin_of : Import → ImportOrExternCrate
origin_of import = made_by.Import (record { use_id = import.use_id; idx = import.written.idx })

-- the entry that an import of this visibility puts in one namespace
abbrev pub entry_of : Order Visibility → Import → Visibility → Option Name → Namespace → Option Item → List (Entry Visibility)
entry_of order import vis name ns None = []
entry_of order import vis name ns (Some item) =
    cond (keeps_ns import.written.kind ns)
    (record { name = name; ns = ns; def = item.def; vis = lessened order item.vis vis; origin = Some (origin_of import) } ∷ [])
    []

-- a path without a word before its first segment, or after `self`
abbrev pub is_plain_or_self : PathKind → Bool
is_plain_or_self Plain = true
is_plain_or_self (Super n) = nat_eq n 0
is_plain_or_self _ = false

-- whether an extern crate made a binding
abbrev pub is_by_crate : Option ImportOrExternCrate → Bool
is_by_crate (Some (made_by.ExternCrate id)) = true
is_by_crate _ = false

-- an extern crate that is imported by its name alone is as visible as the import
abbrev pub reexported : ModPath → Visibility → Item → Item
reexported path vis item = cond (is_by_crate item.import && (is_plain_or_self path.kind && nat_lt (length path.segments) 2)) (record item { vis = vis }) item

-- what an import of this visibility takes of an answer in types
abbrev pub taken_types : ModPath → Visibility → ResolvePathResult → Option Item
taken_types path vis answer = option_map (reexported path vis) (kept_item answer answer.resolved_def.types)

-- the entries of a named import, one in each namespace that its path gives
abbrev pub named_entries : Order Visibility → Import → Visibility → ResolvePathResult → Option (Option Name) → List (Entry Visibility)
named_entries order import vis answer None = []
named_entries order import vis answer (Some name) =
    entry_of order import vis name Types (taken_types import.written.path vis answer)
    ++ (entry_of order import vis name Values (kept_item answer answer.resolved_def.values)
    ++ entry_of order import vis name Macros (kept_item answer answer.resolved_def.macros))
