-- Builtin derives that are deferred: with the fast path, one whose impls are known is not expanded. It gives its impls once its item is handled, and is expanded only where an attribute replaces the item.
use Rattle.std.specs.Prelude.{◌≡◌, ℕ, Bool, true, false, cond, List, [], ◌∷◌, ◌++◌, length, map, Option, None, Some, unwrap_or}
use Rattle.std.specs.Map.{lookup}
use Rattle.either.specs.declared.Either.TheVariants.{Right}
use Rattle.indexmap.specs.IndexMap.{insert_entry, swap_remove_entry}
use Rattle.tree_ids.specs.declared.ids.FileAstId.{FileAstId}
use Rattle.tree_ids.specs.declared.ids.InFile.{InFile}
use Rattle.tree_ids.specs.declared.ids.MacroCallId.{MacroCallId}
use Rattle.item_tree.specs.declared.items.ItemNode.{ItemNode}
use Rattle.item_tree.specs.declared.items.ModItemKind.{ModItemKind}
use Rattle.item_tree.specs.declared.items.ModItemKind.TheVariants.{Struct, Union, Enum}
use Rattle.def_ids.specs.declared.ids.Adt.{Adt}
use Rattle.def_ids.specs.declared.ids.Adt.TheVariants as adt_of
use Rattle.def_ids.specs.declared.ids.BuiltinDeriveImplId.{BuiltinDeriveImplId}
use Rattle.def_ids.specs.declared.ids.ModuleId.{ModuleId}
use Rattle.def_interner.specs.declared.macro_def.MacroDefId.{MacroDefId}
use Rattle.def_interner.specs.declared.macro_def.MacroDefKind.{MacroDefKind}
use Rattle.def_interner.specs.declared.macro_def.MacroDefKind.TheVariants.{BuiltInDerive}
use Rattle.def_interner.specs.Session.{Session, StructItem, UnionItem, EnumItem}
use Rattle.def_modules.specs.declared.map.HelpersRange.{HelpersRange}
use Rattle.def_modules.specs.Equality.{position_eq}
use Rattle.def_modules.specs.Maps.{with_module, with_renamed_helpers}
use Rattle.def_modules.specs.MapState.{MapState}
use Rattle.def_modules.specs.Scopes.{called_at, with_derive_impl}
use Rattle.def_oracle.specs.Oracle.{Oracle}
use Rattle.def_rules.specs.declared.deferred.DeferredDerive.{DeferredDerive}
use Rattle.def_rules.specs.Calls.{deeper}
use Rattle.def_rules.specs.Derives.{derives_kind}
use Rattle.def_rules.specs.Items.{IsNumber, position_of}
use Rattle.def_rules.specs.State.{State, Site, with_map}
use Rattle.def_rules.specs.Waiting.{Deferrals, Expansion, MacroDirective, WrittenDerive}

-- Which derives are deferred

-- the builtin derive of a kind of macro, if its impls are known
abbrev pub known_derive : Oracle → MacroDefKind → Option ℕ
known_derive oracle (BuiltInDerive n) = cond (oracle.has_builtin_derive_impl n) (Some n) None
known_derive oracle _ = None

-- that of a macro where the fast path is on, and so is deferred
abbrev pub deferred_derive : Oracle → MacroDefId → Option ℕ
deferred_derive oracle found = cond oracle.builtin_derive_fast_path (known_derive oracle found.kind) None

-- the helpers of a position in one map that stand behind those in another
abbrev pub added_helpers : MapState → MapState → InFile FileAstId → HelpersRange
added_helpers before after position = record { start = length (before.helpers position); end = length (after.helpers position) }

-- how a derive is deferred: one level deeper than its attribute, with the helpers that it added
abbrev pub deferral : MacroDirective → WrittenDerive → MacroCallId → ℕ → HelpersRange → DeferredDerive
deferral directive written call n helpers =
    record {
      derive = n;
      attr_id = written.id;
      pos = written.pos;
      call = call;
      helpers = helpers;
      module_id = directive.scope;
      container = directive.container;
      depth = deeper directive.depth;
    }

-- the derives that are deferred at a position, in order
abbrev pub deferred_in : Deferrals → InFile FileAstId → List DeferredDerive
deferred_in deferred position = unwrap_or (lookup (position_eq position) deferred) []

-- one more is, behind the others
abbrev pub with_deferred : Deferrals → InFile FileAstId → DeferredDerive → Deferrals
with_deferred deferred position derive = insert_entry position_eq deferred position (deferred_in deferred position ++ derive ∷ [])

-- none is any longer
abbrev pub without_deferred : Deferrals → InFile FileAstId → Deferrals
without_deferred deferred position = swap_remove_entry (position_eq position) deferred

-- so in a state
abbrev pub deferred_at : State → InFile FileAstId → List DeferredDerive
deferred_at s position = deferred_in s.deferred position

abbrev pub deferring : State → InFile FileAstId → DeferredDerive → State
deferring s position derive = record s { deferred = with_deferred s.deferred position derive }

abbrev pub none_deferred : State → InFile FileAstId → State
none_deferred s position = record s { deferred = without_deferred s.deferred position }

-- Where its item is replaced

-- the expansion of a deferred derive, as deep as it was deferred
abbrev pub deferred_expansion : DeferredDerive → Expansion
deferred_expansion derive = record { scope = derive.module_id; container = derive.container; depth = derive.depth; call = derive.call; replaces = None }

-- the state in which the expansions of the derives of a position are to be walked, in place of being deferred
abbrev pub expanding_deferred : State → InFile FileAstId → State
expanding_deferred s position = record (none_deferred s position) { expansions = s.expansions ++ map deferred_expansion (deferred_at s position) }

-- Where its item is handled

-- a location for each of these traits, in order
abbrev pub AreImpls : Session → Adt → DeferredDerive → List ℕ → List BuiltinDeriveImplId → Type 0
AreImpls session adt derive [] [] = Unit {0}
AreImpls session adt derive (derived ∷ traits) (id ∷ ids) =
    (session.derive_impl id.0 ≡ Some (record { adt = adt; derived = derived; attr = derive.attr_id; pos = derive.pos })) × AreImpls session adt derive traits ids
AreImpls session adt derive _ _ = ⊥

-- a map with these impls in a module
abbrev pub with_impls : MapState → ModuleId → List BuiltinDeriveImplId → MapState
with_impls m at [] = m
with_impls m at (id ∷ ids) = with_impls (with_module m at.index (with_derive_impl id)) at ids

-- the last of a list, or what is before it
abbrev pub last_of : Option BuiltinDeriveImplId → List BuiltinDeriveImplId → Option BuiltinDeriveImplId
last_of before [] = before
last_of before (id ∷ ids) = last_of (Some id) ids

-- a map in which an impl stands at a derive's place, and the helpers that it added are the impl's
abbrev pub naming_impl : MapState → ModuleId → InFile FileAstId → DeferredDerive → Option BuiltinDeriveImplId → MapState
naming_impl m at position derive None = m
naming_impl m at position derive (Some id) =
    with_renamed_helpers (with_module m at.index (called_at position derive.attr_id derive.pos (Right id))) position derive.helpers id

-- a map in which a deferred derive gave these impls: they are recorded, and the last stands for the derive
abbrev pub giving_impls : MapState → ModuleId → InFile FileAstId → DeferredDerive → List BuiltinDeriveImplId → MapState
giving_impls m at position derive ids = naming_impl (with_impls m at ids) at position derive (last_of None ids)

-- each of these derives gives an impl for each of its traits
abbrev pub AreGiven : Oracle → Session → ModuleId → InFile FileAstId → Adt → List DeferredDerive → MapState → MapState → Type 0
AreGiven oracle session at position adt [] m new = new ≡ m
AreGiven oracle session at position adt (derive ∷ derives) m new =
    (ids : List BuiltinDeriveImplId) × AreImpls session adt derive (oracle.derive_traits derive.derive) ids
    × AreGiven oracle session at position adt derives (giving_impls m at position derive ids) new

-- what an item is to its impls, by its kind
abbrev pub IsAdt : State → Site → ItemNode → ModItemKind → Adt → Type 0
IsAdt s site item (Struct name raw ctor) adt = (n : ℕ) × IsNumber s StructItem site item n × (adt ≡ adt_of.Struct (record { 0 = n }))
IsAdt s site item (Union name raw) adt = (n : ℕ) × IsNumber s UnionItem site item n × (adt ≡ adt_of.Union (record { 0 = n }))
IsAdt s site item (Enum name raw) adt = (n : ℕ) × IsNumber s EnumItem site item n × (adt ≡ adt_of.Enum (record { 0 = n }))
IsAdt s site item _ adt = ⊥

-- these derives of an item that may have some give their impls, and none is deferred any longer
abbrev pub GiveImpls : Oracle → State → Site → ItemNode → Bool → List DeferredDerive → State → Type 0
GiveImpls oracle s site item true (derive ∷ derives) new =
    (adt : Adt) × IsAdt s site item item.kind adt × (m : MapState)
    × AreGiven oracle s.session site.scope (position_of site item) adt (derive ∷ derives) s.map m
    × (new ≡ with_map (none_deferred s (position_of site item)) m)
GiveImpls oracle s site item true [] new = new ≡ none_deferred s (position_of site item)
GiveImpls oracle s site item false derives new = new ≡ s

-- so do those that are deferred for an item
abbrev pub ImplsAreGiven : Oracle → State → Site → ItemNode → State → Type 0
ImplsAreGiven oracle s site item new = GiveImpls oracle s site item (derives_kind item.kind) (deferred_at s (position_of site item)) new
