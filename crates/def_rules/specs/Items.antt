-- Items in their lists, where they stand, and what declaring a definition does.
use Rattle.std.specs.Prelude.{◌≡◌, ℕ, nat_eq, Bool, true, false, cond, not, ◌&&◌, List, [], ◌∷◌, ◌++◌, filter, map, Option, None, Some, option_and_then, option_map, is_some, slice_get, unwrap_or}
use Rattle.item_tree.specs.declared.attrs.AttrsOrCfg.{AttrsOrCfg}
use Rattle.tree_ids.specs.declared.ids.CfgExpr.{CfgExpr}
use Rattle.tree_ids.specs.declared.ids.FileAstId.{FileAstId}
use Rattle.tree_ids.specs.declared.ids.InFile.{InFile}
use Rattle.tree_ids.specs.declared.ids.ModItemId.{ModItemId}
use Rattle.tree_ids.specs.declared.ids.TreeId.{TreeId}
use Rattle.item_tree.specs.declared.items.CtorVisibility.{CtorVisibility}
use Rattle.item_tree.specs.declared.items.CtorVisibility.TheVariants.{NoValueNsCtor, ValueNsCtorWithVis, ValueNsCtorWithMinVis}
use Rattle.item_tree.specs.declared.items.ItemNode.{ItemNode}
use Rattle.item_tree.specs.declared.items.ModItemKind.{ModItemKind}
use Rattle.item_tree.specs.declared.items.ModItemKind.TheVariants.{ExternCrate}
use Rattle.item_tree.specs.declared.items.RawVisibility.{RawVisibility}
use Rattle.item_tree.specs.declared.items.UseImport.{UseImport}
use Rattle.tree_ids.specs.declared.name.Name.{Name}
use Rattle.item_tree.specs.declared.tree.ItemTree.{ItemTree}
use Rattle.item_tree.specs.KnownNames.{prelude_import_name}
use Rattle.item_tree.specs.Attrs.{attrs_of, cfg_in, has_attr}
use Rattle.def_ids.specs.declared.ids.Def.{Def}
use Rattle.def_ids.specs.declared.ids.ItemContainerId.{ItemContainerId}
use Rattle.def_ids.specs.declared.ids.ItemContainerId.TheVariants as contained
use Rattle.def_ids.specs.declared.ids.ModuleId.{ModuleId}
use Rattle.def_ids.specs.declared.ids.UseId.{UseId}
use Rattle.def_interner.specs.Session.{ItemKind, ItemLoc, FunctionItem, StructItem, UnionItem, EnumItem, ConstItem, StaticItem, TraitItem, TypeAliasItem, ImplItem, UseItem, ExternCrateItem, ExternBlockItem, in_container}
use Rattle.def_bindings.specs.declared.bindings.Entry.{Entry}
use Rattle.def_bindings.specs.declared.bindings.Namespace.{Namespace}
use Rattle.def_bindings.specs.declared.bindings.Namespace.TheVariants.{Types, Values}
use Rattle.def_bindings.specs.declared.visibility.Visibility.{Visibility}
use Rattle.def_bindings.specs.declared.visibility.Visibility.TheVariants.{Public}
use Rattle.def_bindings.specs.Order.{Order, lesser_of}
use Rattle.def_bindings.specs.Puts.{lessened}
use Rattle.def_modules.specs.Maps.{with_module}
use Rattle.def_modules.specs.MapState.{ModuleState}
use Rattle.def_modules.specs.Scopes.{declared_in}
use Rattle.def_oracle.specs.Oracle.{Oracle}
use Rattle.def_paths.specs.Paths.{resolve_visibility}
use Rattle.def_rules.specs.declared.diagnostics.DefDiagnostic.{DefDiagnostic}
use Rattle.def_rules.specs.declared.diagnostics.DefDiagnosticKind.{DefDiagnosticKind}
use Rattle.def_rules.specs.State.{State, Effect, followed_by, with_map, Site, Task, Enter, Visit, Put, ImportDirective, world, order}
use Rattle.def_rules.specs.Imports.{no_namespaces}

-- an item of a tree; a tree that is not there has none
abbrev pub node_at : Oracle → TreeId → ModItemId → Option ItemNode
node_at oracle tree id = option_and_then (λ t. slice_get t.items id.0) (oracle.item_tree tree)

-- the top items of a tree; a tree that is not there has none
abbrev pub top_items : Oracle → TreeId → List ModItemId
top_items oracle tree = unwrap_or (option_map (λ t. t.top) (oracle.item_tree tree)) []

-- the condition that disables a whole tree
abbrev pub tree_cfg : Oracle → TreeId → Option CfgExpr
tree_cfg oracle tree = option_and_then (λ t. cfg_in t.attrs) (oracle.item_tree tree)

-- whether an item of this kind is an extern crate
abbrev pub is_extern_crate : ModItemKind → Bool
is_extern_crate (ExternCrate name vis alias) = true
is_extern_crate _ = false

-- whether an item is there, and is an extern crate
abbrev pub is_crate_node : Option ItemNode → Bool
is_crate_node None = false
is_crate_node (Some node) = is_extern_crate node.kind

-- whether the item of a number is an extern crate
abbrev pub names_crate : Option ItemTree → ModItemId → Bool
names_crate tree id = is_crate_node (option_and_then (λ t. slice_get t.items id.0) tree)

-- extern crates before all other items, each group in order
abbrev pub crates_first : Option ItemTree → List ModItemId → List ModItemId
crates_first tree ids = filter (names_crate tree) ids ++ filter (λ id. not (names_crate tree id)) ids

-- whether a module is the root of a crate, and not of a block
abbrev pub is_crate_root : ModuleId → Bool
is_crate_root m = nat_eq m.index 0 && not (is_some m.map.block)

-- the order in which the items of a list are visited: at a crate's root extern crates go first
abbrev pub ordered : Option ItemTree → ModuleId → List ModItemId → List ModItemId
ordered tree at ids = cond (is_crate_root at) (crates_first tree ids) ids

-- each item of a list is visited in order
abbrev pub visits : Site → List ModItemId → List Task
visits site ids = map (λ id. Visit site id) ids

-- a walk of a list: the directory is stored, and then each item is visited, at a crate's root extern crates first
abbrev pub walk : Oracle → Site → List ModItemId → List Task
walk oracle site ids = Enter site.scope site.directory ∷ visits site (ordered (oracle.item_tree site.tree) site.scope ids)

-- an item's position
abbrev pub position_of : Site → ItemNode → InFile FileAstId
position_of site item = record { file = site.tree.file; value = item.ast_id }

-- a diagnostic on an item
abbrev pub diagnostic : Site → ItemNode → DefDiagnosticKind → DefDiagnostic
diagnostic site item kind = record { «module» = site.scope; ast_id = position_of site item; kind = kind }

-- what contains an item: functions, constants, statics and type aliases stand in the container of their list, all others in the module
abbrev pub container_of : Site → ItemKind → ItemContainerId
container_of site FunctionItem = site.container
container_of site ConstItem = site.container
container_of site StaticItem = site.container
container_of site TypeAliasItem = site.container
container_of site StructItem = contained.Module site.scope
container_of site UnionItem = contained.Module site.scope
container_of site EnumItem = contained.Module site.scope
container_of site TraitItem = contained.Module site.scope
container_of site ImplItem = contained.Module site.scope
container_of site UseItem = contained.Module site.scope
container_of site ExternCrateItem = contained.Module site.scope
container_of site ExternBlockItem = contained.Module site.scope

-- where an item stands
abbrev pub loc_of : Site → ItemKind → ItemNode → ItemLoc
loc_of site kind item = in_container (container_of site kind) (position_of site item)

-- the number of this item's location
abbrev pub IsNumber : State → ItemKind → Site → ItemNode → ℕ → Type 0
IsNumber s kind site item n = s.session.item kind n ≡ Some (loc_of site kind item)

-- what a written visibility means in a module; public where it means nothing
abbrev pub written_vis : Oracle → State → ModuleId → RawVisibility → Visibility
written_vis oracle s at raw = unwrap_or (resolve_visibility (world oracle s) at raw) Public

-- a definition is recorded as a declaration
abbrev pub declare : State → ModuleId → Def → State
declare s at d = with_map s (with_module s.map at.index (declared_in d))

-- the entry of a declaration
abbrev pub declared_entry : Name → Namespace → Def → Visibility → Entry Visibility
declared_entry name ns d vis = record { name = Some name; ns = ns; def = d; vis = vis; origin = None }

-- it is put by declaration
abbrev pub put_declared : ModuleId → Name → Namespace → Def → Visibility → Task
put_declared at name ns d vis = Put at (declared_entry name ns d vis)

-- whether an item has the attribute of a prelude import
abbrev pub is_prelude_import : Option AttrsOrCfg → Bool
is_prelude_import attrs = has_attr prelude_import_name (attrs_of attrs)

-- the imports of a `use`, of which nothing is recorded yet
abbrev pub new_imports : Site → ItemNode → UseId → RawVisibility → List UseImport → List ImportDirective
new_imports site item id vis imports =
    map (λ written. record {
      import = record { scope = site.scope; position = position_of site item; use_id = id; written = written; vis = vis; is_prelude = is_prelude_import item.attrs };
      recorded = no_namespaces;
    }) imports

-- the least of a visibility and those of a list, met in order; none where two that meet are unrelated
abbrev pub least_of : Order Visibility → Visibility → List Visibility → Option Visibility
least_of o v [] = Some v
least_of o v (w ∷ ws) = option_and_then (λ m. least_of o m ws) (lesser_of o.at_most v w)

-- the least of a list, if it has any
abbrev pub least_in : Order Visibility → List Visibility → Option Visibility
least_in o [] = None
least_in o (v ∷ vs) = least_of o v vs

-- a constructor's visibility, if it has one: as it is written, or the least of those of its fields
abbrev pub ctor_vis : Oracle → State → ModuleId → CtorVisibility → Option Visibility
ctor_vis oracle s at NoValueNsCtor = None
ctor_vis oracle s at (ValueNsCtorWithVis raw) = Some (written_vis oracle s at raw)
ctor_vis oracle s at (ValueNsCtorWithMinVis raws) = least_in (order s) (map (λ raw. written_vis oracle s at raw) raws)

-- a constructor is at most as visible as its struct
abbrev pub ctor_task : State → ModuleId → Name → Def → Visibility → Option Visibility → List Task
ctor_task s at name d vis None = []
ctor_task s at name d vis (Some ctor) = put_declared at name Values d (lessened (order s) ctor vis) ∷ []

-- a struct is recorded and put in types, and its constructor in values
abbrev pub struct_effect : State → ModuleId → Name → Def → Visibility → Option Visibility → Effect
struct_effect s at name d vis ctor =
    followed_by (declare s at d) (put_declared at name Types d vis ∷ ctor_task s at name d vis ctor)

-- a definition is recorded as a declaration, and put in one namespace
abbrev pub declared_effect : State → ModuleId → Name → Namespace → Def → Visibility → Effect
declared_effect s at name ns d vis = followed_by (declare s at d) (put_declared at name ns d vis ∷ [])

-- a change of a module's data with nothing to follow
abbrev pub noted_in : State → ModuleId → (ModuleState → ModuleState) → State
noted_in s at change = with_map s (with_module s.map at.index change)
