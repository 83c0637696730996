-- What a module sees of the names around it.
use Rattle.std.specs.Prelude.{◌≡◌, ◌≤◌, ℕ, true, ◌↔◌, ◌⊎◌, List, [], ◌∷◌, ◌++◌, filter_map, flat_map, Option, None, Some, option_map, is_some, Contains, AllPairs, if◌then◌else◌}
use Rattle.std.specs.List.{cons_option}
use Rattle.item_tree.specs.declared.mod_path.ModPath.{ModPath}
use Rattle.item_tree.specs.declared.mod_path.PathKind.TheVariants.{Plain}
use Rattle.tree_ids.specs.declared.name.Name.{Name}
use Rattle.def_ids.specs.declared.ids.ModuleId.{ModuleId}
use Rattle.def_ids.specs.Ids.{is_block_root}
use Rattle.def_interner.specs.Session.{Session}
use Rattle.def_bindings.specs.declared.bindings.Namespace.{Namespace}
use Rattle.def_bindings.specs.declared.bindings.Namespace.TheVariants.{Types, Values, Macros}
use Rattle.def_modules.specs.MapView.{MapView, LocalView}
use Rattle.def_oracle.specs.Oracle.{Oracle}
use Rattle.def_sources.specs.declared.per_ns.PerNs.{PerNs}
use Rattle.def_sources.specs.Modes.{for_module}
use Rattle.def_sources.specs.PerNs.{Item, in_namespace, nothing, otherwise, per_namespace}
use Rattle.def_sources.specs.Sources.{Question, Source, question_of, world_of, textual_source, scope_source, builtin_source, extern_source, macro_use_source, prelude_source, unless_block_root}
use Rattle.def_paths.specs.Answers.{first_resolved}
use Rattle.def_paths.specs.OuterMaps.{answers_outside}
use Rattle.def_paths.specs.Paths.{resolve}
use Rattle.visible_names.specs.declared.brought.BroughtBy.{BroughtBy}
use Rattle.visible_names.specs.declared.brought.BroughtBy.TheVariants.{TextualMacro, Scope, ExternPrelude, MacroUsePrelude, Prelude}
use Rattle.visible_names.specs.declared.brought.VisibleName.{VisibleName}

-- what the sources are asked with; none of them asks the session
abbrev pub asking : Oracle → LocalView → Question
asking oracle local = record {
  oracle = oracle;
  enum_loc = λ _. None;
  kind_of = λ _. None;
  extern_prelude = local.extern_prelude;
  asked = for_module;
}

-- what a source has
abbrev pub source_of : Question → MapView → ModuleId → BroughtBy → Source
source_of q own place TextualMacro = textual_source q own place
source_of q own place Scope = scope_source q own place
source_of q own place ExternPrelude = unless_block_root place (extern_source q)
source_of q own place MacroUsePrelude = macro_use_source own
source_of q own place Prelude = unless_block_root place (prelude_source q own)

-- what a source has of a name, in each namespace
abbrev pub has : Question → MapView → ModuleId → BroughtBy → Name → PerNs
has q own place by name = per_namespace (source_of q own place by name)

-- what a name means inside the module: by its textual macros, its scope and the builtin types
abbrev pub inside : Question → MapView → ModuleId → Name → PerNs
inside q own place name =
    otherwise (otherwise (has q own place TextualMacro name) (has q own place Scope name)) (per_namespace (builtin_source q own name))

-- what a name means by the sources that go before one
abbrev pub before : Question → MapView → ModuleId → BroughtBy → Name → PerNs
before q own place TextualMacro name = nothing
before q own place Scope name = has q own place TextualMacro name
before q own place ExternPrelude name = inside q own place name
before q own place MacroUsePrelude name = otherwise (inside q own place name) (has q own place ExternPrelude name)
before q own place Prelude name =
    otherwise (otherwise (inside q own place name) (has q own place ExternPrelude name)) (has q own place MacroUsePrelude name)

-- what a source brings of a name into a namespace: what it has, where none before it has anything
abbrev pub brings : Question → MapView → ModuleId → BroughtBy → Name → Namespace → Option Item
brings q own place by name ns =
    if is_some (in_namespace (before q own place by name) ns) then None else in_namespace (has q own place by name) ns

-- a name that a source brings
abbrev pub brought_as : BroughtBy → Name → Namespace → Item → VisibleName
brought_as by name ns item = record { name = name; ns = ns; item = item; by = by }

-- what is found of a name in a namespace, where nothing goes before it
abbrev pub brought_over : BroughtBy → Name → Namespace → Option Item → Option Item → List VisibleName
brought_over by name ns found earlier = cons_option (option_map (brought_as by name ns) (if is_some earlier then None else found)) []

-- what a source brings of a name, in each namespace
abbrev pub brought : Question → MapView → ModuleId → BroughtBy → Name → List VisibleName
brought q own place by name = filter_map (λ ns. option_map (brought_as by name ns) (brings q own place by name ns)) (Types ∷ Values ∷ Macros ∷ [])

-- what a source brings of these names
abbrev pub all_brought : Question → MapView → ModuleId → BroughtBy → List Name → List VisibleName
all_brought q own place by names = flat_map (brought q own place by) names

-- these are all names that a source has, and perhaps more
abbrev pub Lists : Source → List Name → Type 0
Lists source names = (name : Name) (ns : Namespace) (item : Item) → source name ns ≡ Some item → Contains names name

-- two entries that are of two names, or in two namespaces
abbrev pub AreApart : VisibleName → VisibleName → Type 0
AreApart a b = a.name ≡ b.name → a.ns ≡ b.ns → ⊥

-- all that a source brings was added behind the others, none of it twice, and nothing else
pub record AddsAll (q : Question) (own : MapView) (place : ModuleId) (by : BroughtBy) (old new : List VisibleName) : Type 0 where
  pub added : List VisibleName
  pub behind : new ≡ old ++ added
  pub exact : (e : VisibleName) → Contains added e ↔ ((e.by ≡ by) × (brings q own place by e.name e.ns ≡ Some e.item))
  pub once : AllPairs AreApart added

-- a plain path of one name
abbrev pub lone : Name → ModPath
lone name = record { kind = Plain; segments = name ∷ [] }

-- what the plain path of one name means in a module, in one namespace, where a module goes before a builtin type
abbrev pub meant : Oracle → Session → MapView → LocalView → ModuleId → Name → Namespace → Option Item
meant oracle session own local place name ns =
    in_namespace (resolve (world_of oracle session own local) for_module place (lone name)).resolved_def ns

-- what such a path means in the maps around a block, the first of them that has it
abbrev pub meant_around : Oracle → Session → MapView → LocalView → Name → Namespace → Option Item
meant_around oracle session own local name ns =
    first_resolved (λ p. in_namespace p ns) (answers_outside (question_of oracle session local for_module) (lone name) [] own.facts.containing)

-- how many sources are asked before this one
abbrev pub rank : BroughtBy → ℕ
rank TextualMacro = 0
rank Scope = 1
rank ExternPrelude = 2
rank MacroUsePrelude = 3
rank Prelude = 4

-- a list of all that a module sees
pub record ShowsAll (oracle : Oracle) (own : MapView) (local : LocalView) (place : ModuleId) (list : List VisibleName) : Type 0 where
  -- it has what each source brings, and nothing else
  pub exact : (e : VisibleName) → Contains list e ↔ (brings (asking oracle local) own place e.by e.name e.ns ≡ Some e.item)
  -- no name stands twice in a namespace
  pub once : AllPairs AreApart list
  -- sources stand in the order in which they are asked
  pub in_order : AllPairs (λ (a b : VisibleName). rank a.by ≤ rank b.by) list
  -- a plain path of the name means the item
  pub means : (session : Session) (e : VisibleName) → Contains list e → meant oracle session own local place e.name e.ns ≡ Some e.item
  -- what such a path means is listed, or is a builtin type, or a block's root finds it in the maps around the block
  pub covers : (session : Session) (name : Name) (ns : Namespace) (item : Item) → meant oracle session own local place name ns ≡ Some item
      → ((by : BroughtBy) × Contains list (brought_as by name ns item)) ⊎ ((builtin_source (asking oracle local) own name ns ≡ Some item)
      ⊎ ((is_block_root place ≡ true) × (meant_around oracle session own local name ns ≡ Some item)))
