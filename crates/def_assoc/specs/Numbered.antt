-- Numbers of the items of a trait or an impl.
use Rattle.std.specs.Prelude.{◌≡◌, List, Some, Contains}
use Rattle.tree_ids.specs.declared.name.Name.{Name}
use Rattle.def_ids.specs.declared.ids.ItemContainerId.{ItemContainerId}
use Rattle.def_interner.specs.Session.{Session, ItemKind, ItemLoc, FunctionItem, ConstItem, TypeAliasItem, in_container}
use Rattle.def_rules.specs.Locations.{AddsOnly}
use Rattle.def_assoc.specs.declared.assoc.AssocItemId.{AssocItemId}
use Rattle.def_assoc.specs.declared.assoc.AssocItemId.TheVariants as id
use Rattle.def_assoc.specs.declared.numbered.NamedItem.{NamedItem}
use Rattle.def_assoc.specs.declared.numbered.NamedKind.{NamedKind}
use Rattle.def_assoc.specs.declared.numbered.NamedKind.TheVariants.{Function, Const, TypeAlias}

-- the kind of the number that an item gets
abbrev pub item_kind : NamedKind → ItemKind
item_kind Function = FunctionItem
item_kind Const = ConstItem
item_kind TypeAlias = TypeAliasItem

-- where an item of a trait or an impl stands
abbrev pub loc_of : ItemContainerId → NamedItem → ItemLoc
loc_of container item = in_container container item.position

-- an id is of this kind, and has this location in a session
abbrev pub IsLocated : Session → NamedKind → ItemLoc → AssocItemId → Type 0
IsLocated session Function loc (id.Function n) = session.item FunctionItem n.0 ≡ Some loc
IsLocated session Const loc (id.Const n) = session.item ConstItem n.0 ≡ Some loc
IsLocated session TypeAlias loc (id.TypeAlias n) = session.item TypeAliasItem n.0 ≡ Some loc
IsLocated session _ loc _ = ⊥

-- an item stands under its name, with an id of its location
abbrev pub IsNumbered : Session → ItemContainerId → NamedItem → Name × AssocItemId → Type 0
IsNumbered session container item numbered = (numbered.0 ≡ item.name) × IsLocated session item.kind (loc_of container item) numbered.1

-- a location is that of an item
abbrev pub IsLocOf : ItemContainerId → NamedItem → ItemKind → ItemLoc → Type 0
IsLocOf container item kind loc = (kind ≡ item_kind item.kind) × (loc ≡ loc_of container item)

-- so it is of one of these
abbrev pub IsLocAmong : ItemContainerId → List NamedItem → ItemKind → ItemLoc → Type 0
IsLocAmong container items kind loc = (item : NamedItem) × Contains items item × IsLocOf container item kind loc

-- the location of an item alone is added
abbrev pub AddsOne : ItemContainerId → NamedItem → Session → Session → Type 0
AddsOne container item old new = AddsOnly (IsLocOf container item) (λ id loc. ⊥) (λ loc. ⊥) old new

-- only locations of these items are
abbrev pub AddsNamed : ItemContainerId → List NamedItem → Session → Session → Type 0
AddsNamed container items old new = AddsOnly (IsLocAmong container items) (λ id loc. ⊥) (λ loc. ⊥) old new
