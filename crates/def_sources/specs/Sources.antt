-- What the first segment of a path means: in each namespace the first of a list of sources that has it.
use Rattle.std.specs.Prelude.{ℕ, Bool, true, false, not, ◌&&◌, List, [], ◌∷◌, ◌++◌, filter, Option, Some, None, is_some, slice_get, if◌then◌else◌}
use Rattle.std.specs.Option.{option_map, option_map_or, option_or, option_and_then}
use Rattle.item_tree.specs.declared.mod_path.PathKind.{PathKind}
use Rattle.item_tree.specs.declared.mod_path.PathKind.TheVariants.{Plain, Super, Crate, Abs, DollarCrate}
use Rattle.tree_ids.specs.declared.name.Name.{Name}
use Rattle.def_ids.specs.declared.ids.Def.TheVariants.{Builtin, Macro}
use Rattle.def_ids.specs.declared.ids.MacroId.{MacroId}
use Rattle.def_ids.specs.declared.ids.MapId.{MapId}
use Rattle.def_ids.specs.declared.ids.ModuleId.{ModuleId}
use Rattle.def_interner.specs.declared.macro_def.MacroDefKind.{MacroDefKind}
use Rattle.def_ids.specs.Ids.{is_same_map, is_block_root, crate_root}
use Rattle.def_interner.specs.Session.{Session, ItemLoc, EnumItem, macro_kind}
use Rattle.def_bindings.specs.declared.bindings.Namespace.{Namespace}
use Rattle.def_bindings.specs.declared.bindings.Namespace.TheVariants.{Types, Values, Macros}
use Rattle.def_sources.specs.declared.asked.Asked.{Asked}
use Rattle.def_sources.specs.declared.per_ns.PerNs.{PerNs}
use Rattle.def_sources.specs.Items.{public_item, extern_item, is_module_item, is_2015, is_for_import, is_builtin_first}
use Rattle.def_modules.specs.MapView.{MapView, LocalView, ExternCrateEntry}
use Rattle.def_oracle.specs.Oracle.{Oracle}
use Rattle.def_sources.specs.PerNs.{Item, kept, kept_in, otherwise, per_namespace}

-- what paths are read against
pub record World : Type 0 where
  pub oracle : Oracle
  pub session : Session
  pub map : MapView
  pub local : LocalView

-- the world of these
abbrev pub world_of : Oracle → Session → MapView → LocalView → World
world_of oracle session map local = record { oracle = oracle; session = session; map = map; local = local }

-- what every path of one call is asked with
pub record Question : Type 0 where
  pub oracle : Oracle
  pub enum_loc : ℕ → Option ItemLoc
  pub kind_of : MacroId → Option MacroDefKind
  pub extern_prelude : Name → Option ExternCrateEntry
  pub asked : Asked

-- the question that is asked with these
abbrev pub question_of : Oracle → Session → LocalView → Asked → Question
question_of oracle session local asked = record {
  oracle = oracle;
  enum_loc = session.item EnumItem;
  kind_of = macro_kind session;
  extern_prelude = local.extern_prelude;
  asked = asked;
}

-- the question that is asked in this world
abbrev pub question : World → Asked → Question
question w asked = question_of w.oracle w.session w.local asked

-- where names come from: what it has of a name in each namespace
abbrev pub Source : Type 0
Source = Name → Namespace → Option Item

-- the first source that has the name, with what passes the test
abbrev pub first_found : (Item → Bool) → List Source → Name → Namespace → Option Item
first_found keep [] name ns = None
first_found keep (source ∷ sources) name ns = option_or (kept keep (source name ns)) (first_found keep sources name ns)

-- what a name means in each namespace, by the first source that has it
abbrev pub found_in : (Item → Bool) → List Source → Name → PerNs
found_in keep sources name = per_namespace (first_found keep sources name)

-- what was found, and in each namespace where nothing was, what one more source has
abbrev pub with_source : (Item → Bool) → PerNs → Source → Name → PerNs
with_source keep found source name = otherwise found (kept_in keep (per_namespace (source name)))

-- the finished map of a block or a crate
abbrev pub finished_map : Oracle → MapId → Option MapView
finished_map oracle id = option_map_or oracle.outer_map id.block (oracle.crate_def_map id.krate)

-- the map of an id: this one or a finished one
abbrev pub map_of_id : Oracle → MapView → MapId → Option MapView
map_of_id oracle own id = if is_same_map id own.facts.id then Some own else finished_map oracle id

-- what a module's scope binds
abbrev pub scope_source : Question → MapView → ModuleId → Source
scope_source q own place name ns = option_and_then (λ there. there.content.binding place name ns) (map_of_id q.oracle own place.map)

-- a module's last textual macro of the name
abbrev pub textual_source : Question → MapView → ModuleId → Source
textual_source q own place name Types = None
textual_source q own place name Values = None
textual_source q own place name Macros =
    option_map (λ m. public_item (Macro m)) (option_and_then (λ there. there.facts.textual_macro place name) (map_of_id q.oracle own place.map))

-- the builtin types, which blocks leave to the maps around them
abbrev pub builtin_source : Question → MapView → Source
builtin_source q own name Types =
    if is_some own.facts.id.block then None else option_map (λ n. public_item (Builtin n)) (q.oracle.builtin_type name)
builtin_source q own name Values = None
builtin_source q own name Macros = None

-- the roots of other crates
abbrev pub extern_source : Question → Source
extern_source q name Types = option_map extern_item (q.extern_prelude name)
extern_source q name Values = None
extern_source q name Macros = None

-- the macros that extern crates brought
abbrev pub macro_use_source : MapView → Source
macro_use_source own name Types = None
macro_use_source own name Values = None
macro_use_source own name Macros = option_map (λ m. public_item (Macro m)) (own.facts.macro_use name)

-- the scope of the prelude module
abbrev pub prelude_source : Question → MapView → Source
prelude_source q own name ns = option_and_then (λ prelude. scope_source q own prelude name ns) own.facts.prelude

-- a block's root skips what the maps around it ask
abbrev pub unless_block_root : ModuleId → Source → Source
unless_block_root place source name ns = if is_block_root place then None else source name ns

-- a source without its modules
abbrev pub without_modules : Source → Source
without_modules source name ns = kept (λ item. not (is_module_item item)) (source name ns)

-- the scope and the builtin types; a builtin type that is asked for alone may go before a module
abbrev pub scope_and_builtin : Bool → Question → MapView → ModuleId → List Source
scope_and_builtin true q own place = without_modules (scope_source q own place) ∷ builtin_source q own ∷ scope_source q own place ∷ []
scope_and_builtin false q own place = scope_source q own place ∷ builtin_source q own ∷ []

-- the sources outside the scopes
abbrev pub outer_sources : Question → MapView → ModuleId → List Source
outer_sources q own place =
    unless_block_root place (extern_source q) ∷ macro_use_source own ∷ unless_block_root place (prelude_source q own) ∷ []

-- the sources of a plain path's first segment
abbrev pub plain_sources : Question → MapView → ModuleId → Bool → List Source
plain_sources q own place alone =
    textual_source q own place ∷ (scope_and_builtin (alone && is_builtin_first q.asked.shadow) q own place ++ outer_sources q own place)

-- the sources of a first segment that is looked up from the crate's root
abbrev pub root_sources : Question → MapView → List Source
root_sources q own = scope_source q own (crate_root own.facts.id.krate) ∷ extern_source q ∷ []

-- the sources of the first segment of an absolute path
abbrev pub absolute_sources : Question → MapView → List Source
absolute_sources q own = if is_2015 own.facts.edition then root_sources q own else extern_source q ∷ []

-- those of a plain path, which an import of edition 2015 looks up from the crate's root
abbrev pub relative_sources : Question → MapView → ModuleId → Bool → List Source
relative_sources q own place alone =
    if is_2015 own.facts.edition && is_for_import q.asked.mode then root_sources q own else plain_sources q own place alone

-- where a path begins: at a module, if it is there, or at what the first segment means by these sources
pub data Beginning : Type 0 where
  at_module : Option ModuleId → Beginning
  by_sources : List Source → Beginning

-- the beginning of a path, by its kind
abbrev pub beginning : Question → MapView → ModuleId → Bool → PathKind → Beginning
beginning q own place alone Crate = at_module (Some (crate_root own.facts.id.krate))
beginning q own place alone (DollarCrate krate) = at_module (Some (crate_root krate))
beginning q own place alone (Super n) = at_module (slice_get (filter (λ m. not (is_block_root m)) (own.facts.chain place)) n)
beginning q own place alone Abs = by_sources (absolute_sources q own)
beginning q own place alone Plain = by_sources (relative_sources q own place alone)
