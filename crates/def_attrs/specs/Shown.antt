-- What attributes do with items, and their derives, as the rules see them.
use Rattle.std.specs.Prelude.{◌≡◌, ◌∷◌, ◌++◌, List, map}
use Rattle.def_attrs.specs.ItemAttrs.{active_of, skipped_of}
use Rattle.def_attrs.specs.declared.attrs.AttrUse.{AttrUse}
use Rattle.def_attrs.specs.declared.attrs.AttrUse.TheVariants.{PassesOver, ReadsDerives, ReplacesItem, HasNoExpander}
use Rattle.def_attrs.specs.declared.deferred.DeferredDerives.{DeferredDerives}
use Rattle.def_attrs.specs.declared.derives.DeriveList.{DeriveList}
use Rattle.def_attrs.specs.declared.item_attrs.ItemAttrs.{ItemAttrs}
use Rattle.def_calls.specs.declared.directives.Expansion.{Expansion}
use Rattle.def_calls.specs.declared.directives.MacroDirective.{MacroDirective}
use Rattle.def_calls.specs.Shown.{expansion_shown, macros_in}
use Rattle.def_modules.specs.declared.map.MapData.{MapData}
use Rattle.def_modules.specs.Maps.{map_state}
use Rattle.def_rules.specs.Attributes as attributes
use Rattle.def_rules.specs.Attributes.{passed_over}
use Rattle.def_rules.specs.declared.diagnostics.DefDiagnostic.{DefDiagnostic}
use Rattle.def_rules.specs.Fallback.{attr_reported}
use Rattle.def_rules.specs.Derives.{derives_from}
use Rattle.def_rules.specs.State as rules
use Rattle.def_rules.specs.Waiting as waits

-- the derives of a list
abbrev pub derives_in : DeriveList → List waits.WrittenDerive
derives_in list = derives_from list.written.attr_id list.call 0 list.paths.now

-- the derives that are deferred
abbrev pub deferrals_of : DeferredDerives → waits.Deferrals
deferrals_of deferred = deferred.by_item.entries

-- what a macro does with the item of its attribute
abbrev pub attr_use_of : AttrUse → attributes.AttrUse
attr_use_of PassesOver = attributes.PassesOver
attr_use_of ReadsDerives = attributes.ReadsDerives
attr_use_of ReplacesItem = attributes.ReplacesItem
attr_use_of (HasNoExpander err) = attributes.HasNoExpander err

-- the state with this map, and in which these derives are deferred and these expansions are to be walked
abbrev pub with_derives : rules.State → MapData → DeferredDerives → List Expansion → rules.State
with_derives s m deferred expansions = record s { map = map_state m; deferred = deferrals_of deferred; expansions = map expansion_shown expansions }

-- the state with this map, and in which this is noted of items
abbrev pub with_attrs : rules.State → MapData → ItemAttrs → rules.State
with_attrs s m attrs = record s { map = map_state m; skipped = skipped_of attrs; active = active_of attrs }

-- the state with these diagnostics, in which these wait and this is noted of items
abbrev pub with_items : rules.State → List DefDiagnostic → List MacroDirective → ItemAttrs → rules.State
with_items s diagnostics directives attrs = record s { diagnostics = diagnostics; macros = macros_in directives; skipped = skipped_of attrs; active = active_of attrs }

-- an item that waited was given up: its attribute was reported and passed over, and the others wait on
pub record IsGivenUp (s : rules.State) (d : waits.MacroDirective) (written : waits.WrittenAttr) (t : rules.State) : Type 0 where
  pub before : List waits.MacroDirective
  pub behind : List waits.MacroDirective
  pub stands : s.macros ≡ before ++ d ∷ behind
  pub is : t ≡ record (passed_over (attr_reported s d written) d.position.file written) { macros = before ++ behind }
