-- What is found among the associated items of a trait or an impl.
use Rattle.std.specs.Prelude.{cond, List, [], ◌∷◌, Option, None, Some}
use Rattle.std.specs.List.{filter_map}
use Rattle.std.specs.Option.{option_or}
use Rattle.tree_ids.specs.declared.name.Name.{Name}
use Rattle.def_ids.specs.declared.ids.FunctionId.{FunctionId}
use Rattle.def_ids.specs.declared.ids.TypeAliasId.{TypeAliasId}
use Rattle.item_tree.specs.KnownNames.{name_eq}
use Rattle.def_assoc.specs.declared.assoc.AssocItemId.{AssocItemId}
use Rattle.def_assoc.specs.declared.assoc.AssocItemId.TheVariants.{Function, Const, TypeAlias}

-- the function that an item is, if it is one
abbrev pub function_in : AssocItemId → Option FunctionId
function_in (Function id) = Some id
function_in (Const id) = None
function_in (TypeAlias id) = None

-- the type alias that an item is, if it is one
abbrev pub type_alias_in : AssocItemId → Option TypeAliasId
type_alias_in (Function id) = None
type_alias_in (Const id) = None
type_alias_in (TypeAlias id) = Some id

-- the first item of a name, as what is asked for
abbrev pub first_named : {A : Type 0} → (AssocItemId → Option A) → Name → List (Name × AssocItemId) → Option A
first_named as_kind name [] = None
first_named as_kind name (item ∷ items) = option_or (cond (name_eq item.0 name) (as_kind item.1) None) (first_named as_kind name items)

-- the type aliases of a list, in order
abbrev pub type_aliases : List (Name × AssocItemId) → List TypeAliasId
type_aliases items = filter_map (λ (item : Name × AssocItemId). type_alias_in item.1) items
