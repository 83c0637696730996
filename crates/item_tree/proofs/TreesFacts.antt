-- Trees and faults, at worked rows.
use Rattle.std.proofs.Common.{◌≡◌, ℕ, ◌<◌, ◌≤◌, ◌⊎◌, List, [], ◌∷◌, refl, arith, lit<, lit≤}
use Rattle.std.specs.Prelude.{true, false, None, Some}
use Rattle.item_tree.specs.declared.attrs.AttrsOrCfg.{AttrsOrCfg}
use Rattle.item_tree.specs.declared.attrs.AttrsOrCfg.TheVariants.{CfgDisabled}
use Rattle.tree_ids.specs.declared.ids.ModItemId.{ModItemId}
use Rattle.item_tree.specs.declared.items.ItemNode.{ItemNode}
use Rattle.item_tree.specs.declared.items.ModContents.TheVariants.{Inline, Outline}
use Rattle.item_tree.specs.declared.items.ModItemKind.TheVariants.{Mod, ExternBlock, Struct}
use Rattle.item_tree.specs.declared.items.RawVisibility.TheVariants.{PubSelf}
use Rattle.item_tree.specs.declared.items.CtorVisibility.TheVariants.{NoValueNsCtor}
use Rattle.item_tree.specs.declared.tree.TreeFault.TheVariants.{ChildOutOfRange, ChildNotAfterParent, TwoParents}
use Rattle.item_tree.specs.KnownNames.{self_name}
use Rattle.item_tree.specs.Trees.{children_of, attrs_at, occurrences, list_at, IsFault, IsFirstFault, item_of, rank_of}
use Rattle.item_tree.specs.TreesLaws.{is_tree}
use Rattle.item_tree.specs.TextOrder.{IsRising}

abbrev id : ℕ → ModItemId
id n = record { 0 = n }

-- an inline module with these items
abbrev module_of : List ModItemId → ItemNode
module_of children = record { ast_id = record { 0 = 0 }; attrs = None; kind = Mod self_name PubSelf (Inline children) }

-- a struct, which holds no items
abbrev leaf : ItemNode
leaf = record { ast_id = record { 0 = 0 }; attrs = None; kind = Struct self_name PubSelf NoValueNsCtor }

items_of_a_module : children_of (module_of (id 1 ∷ id 2 ∷ [])) ≡ id 1 ∷ id 2 ∷ []
items_of_a_module = refl

-- a module in a file of its own holds none of this tree's items
items_of_another_file : children_of (record { ast_id = record { 0 = 0 }; attrs = None; kind = Mod self_name PubSelf Outline }) ≡ []
items_of_another_file = refl

items_of_a_struct : children_of leaf ≡ []
items_of_a_struct = refl

items_of_an_extern_block : children_of (record leaf { kind = ExternBlock (id 3 ∷ id 4 ∷ []) }) ≡ id 3 ∷ id 4 ∷ []
items_of_an_extern_block = refl

-- the attributes of an item that is not compiled
abbrev marks : AttrsOrCfg
marks = CfgDisabled (record { 0 = 7 }) (record { list = [] })

abbrev second_marked : List ItemNode
second_marked = leaf ∷ record leaf { attrs = Some marks } ∷ []

-- a number has the attributes of its own item: there may be none, and no item
attributes_by_number : attrs_at second_marked (id 1) ≡ Some marks
attributes_by_number = refl

no_attributes : attrs_at second_marked (id 0) ≡ None
no_attributes = refl

no_item : attrs_at second_marked (id 2) ≡ None
no_item = refl

-- modules 0 and 1 both hold item 2
abbrev shared : List ItemNode
shared = module_of (id 2 ∷ []) ∷ module_of (id 2 ∷ []) ∷ leaf ∷ []

held_twice : occurrences shared (id 0 ∷ id 1 ∷ []) 2 ≡ 2
held_twice = refl

held_by_the_top : occurrences shared (id 0 ∷ id 1 ∷ []) 0 ≡ 1
held_by_the_top = refl

held_by_top_and_module : occurrences shared (id 0 ∷ id 1 ∷ id 2 ∷ []) 2 ≡ 3
held_by_top_and_module = refl

top_list_behind_the_items : list_at shared (id 0 ∷ []) 3 ≡ id 0 ∷ []
top_list_behind_the_items = refl

no_list_behind_the_top : list_at shared (id 0 ∷ []) 4 ≡ []
no_list_behind_the_top = refl

two_parents : IsFault shared (id 0 ∷ id 1 ∷ []) (TwoParents 2)
two_parents = (lit< tt, lit< tt)

-- one module that holds item 5, which is not there
child_5 : IsFirstFault (module_of (id 5 ∷ []) ∷ []) (id 0 ∷ []) (ChildOutOfRange 0)
child_5 = record { stands = (0, id 5, lit< tt, refl, lit≤ tt); least = λ other stands. first (item_of other) (rank_of other) }
  where
    first : (i rank : ℕ) → (0 < i) ⊎ ((0 ≡ i) × (0 ≤ rank))
    first i rank = grind arith

-- one module that holds itself
child_0 : IsFault (module_of (id 0 ∷ []) ∷ []) (id 0 ∷ []) (ChildNotAfterParent 0)
child_0 = (0, id 0, lit< tt, refl, lit≤ tt)

-- a top list that leads out
top_leads_out : IsFault (leaf ∷ []) (id 1 ∷ []) (ChildOutOfRange 1)
top_leads_out = (0, id 1, lit< tt, refl, lit≤ tt)

siblings_rise : IsRising 4 1 (id 1 ∷ id 3 ∷ [])
siblings_rise = (lit≤ tt, lit< tt, (lit≤ tt, lit< tt, tt))

-- a struct, and a module that holds a struct
abbrev small : List ItemNode
small = leaf ∷ module_of (id 2 ∷ []) ∷ leaf ∷ []

small_is_a_tree : is_tree small (id 0 ∷ id 1 ∷ []) ≡ true
small_is_a_tree = refl

shared_is_none : is_tree shared (id 0 ∷ id 1 ∷ []) ≡ false
shared_is_none = refl

child_5_is_none : is_tree (module_of (id 5 ∷ []) ∷ []) (id 0 ∷ []) ≡ false
child_5_is_none = refl
