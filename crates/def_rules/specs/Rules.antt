-- What is to be done for an item: a row for each kind, and what each rule does.
use Rattle.std.specs.Prelude.{◌≡◌, ℕ, Bool, List, ◌++◌, Option, None, Some}
use Rattle.item_tree.specs.declared.attrs.Attr.{Attr}
use Rattle.tree_ids.specs.declared.ids.AttrId.{AttrId}
use Rattle.tree_ids.specs.declared.ids.CfgExpr.{CfgExpr}
use Rattle.tree_ids.specs.declared.ids.ModItemId.{ModItemId}
use Rattle.item_tree.specs.declared.items.CtorVisibility.{CtorVisibility}
use Rattle.item_tree.specs.declared.items.ImportAlias.{ImportAlias}
use Rattle.item_tree.specs.declared.items.ItemNode.{ItemNode}
use Rattle.item_tree.specs.declared.items.ModContents.{ModContents}
use Rattle.item_tree.specs.declared.items.ModItemKind.{ModItemKind}
use Rattle.item_tree.specs.declared.items.ModItemKind.TheVariants.{Mod, Use, ExternCrate, ExternBlock, MacroCall, MacroRules, Macro2, Impl, Struct, Union, Enum, Function, Const, Static, Trait, TypeAlias}
use Rattle.item_tree.specs.declared.items.RawVisibility.{RawVisibility}
use Rattle.item_tree.specs.declared.items.UseImport.{UseImport}
use Rattle.tree_ids.specs.declared.name.Name.{Name}
use Rattle.item_tree.specs.Attrs.{attrs_of, disabled_by}
use Rattle.def_ids.specs.declared.ids.Def.{Def}
use Rattle.def_ids.specs.declared.ids.Def.TheVariants as def
use Rattle.def_ids.specs.declared.ids.ItemContainerId.TheVariants as contained
use Rattle.def_ids.specs.declared.ids.MacroId.TheVariants as macro_of
use Rattle.def_interner.specs.Session.{Session, ItemKind, FunctionItem, StructItem, UnionItem, EnumItem, ConstItem, StaticItem, TraitItem, TypeAliasItem, ImplItem, UseItem, ExternCrateItem, ExternBlockItem}
use Rattle.def_bindings.specs.declared.bindings.Namespace.{Namespace}
use Rattle.def_bindings.specs.declared.bindings.Namespace.TheVariants.{Types, Values}
use Rattle.def_modules.specs.Scopes.{with_extern_block, with_extern_crate, with_impl, with_unnamed_const}
use Rattle.def_oracle.specs.Oracle.{Oracle}
use Rattle.def_rules.specs.declared.diagnostics.DefDiagnosticKind.TheVariants.{UnconfiguredCode}
use Rattle.def_rules.specs.Deferred.{ImplsAreGiven}
use Rattle.def_rules.specs.State.{State, Effect, only, followed_by, reported, Site}
use Rattle.def_rules.specs.Waiting.{WrittenCall}
use Rattle.def_rules.specs.Items.{IsNumber, ctor_vis, declared_effect, diagnostic, node_at, noted_in, new_imports, struct_effect, walk, written_vis}
use Rattle.def_rules.specs.Macros.{IsBuiltinName, item_effect, item_expander, item_flags, macro_loc, macros_brought, rules_effect, rules_expander, rules_flags}
use Rattle.def_rules.specs.Locations.{AddsOwn}
use Rattle.def_rules.specs.ProcMacros.{DeclaresFunction, exported_macro}
use Rattle.def_rules.specs.Attributes.{awaited_attr, awaiting}
use Rattle.def_rules.specs.Calls.{call_effect, queued}
use Rattle.def_rules.specs.Modules.{module_item}
use Rattle.def_rules.specs.ExternCrates.{crate_effect, crate_name, named_crate}

-- what is to be done for an item
pub data Rule : Type 0 where
  -- the item is numbered, and its definition declared under a name in one namespace
  declares : ItemKind → (ℕ → Def) → Namespace → Name → RawVisibility → Rule
  -- a struct is declared, and its constructor
  declares_struct : Name → RawVisibility → CtorVisibility → Rule
  -- a function is declared, and may export a procedural macro
  declares_function : Name → RawVisibility → Rule
  -- a module is declared, and its contents walked
  opens_module : Name → RawVisibility → ModContents → Rule
  -- the items of an extern block are walked
  opens_block : List ModItemId → Rule
  -- imports are to be resolved
  queues : RawVisibility → List UseImport → Rule
  -- an extern crate is put by its name
  binds_crate : Name → RawVisibility → Option ImportAlias → Rule
  -- an impl is recorded, and binds nothing
  notes_impl : Bool → Rule
  -- so is a constant without a name
  notes_const : Rule
  -- a macro by rules is defined for the text behind it
  defines_rules : Name → Rule
  -- a `macro` item is defined and declared
  defines_macro : Name → RawVisibility → Rule
  -- a macro is called
  calls_macro : WrittenCall → Rule

-- the rule of an item, by its kind
abbrev pub rule_of : ModItemKind → Rule
rule_of (Mod name raw contents) = opens_module name raw contents
rule_of (Use raw imports) = queues raw imports
rule_of (ExternCrate name raw alias) = binds_crate name raw alias
rule_of (ExternBlock children) = opens_block children
rule_of (MacroRules name) = defines_rules name
rule_of (Macro2 name raw) = defines_macro name raw
rule_of (MacroCall path expand_to ctxt) = calls_macro (record { path = path; expand_to = expand_to; ctxt = ctxt })
rule_of (Impl of_trait) = notes_impl of_trait
rule_of (Struct name raw ctor) = declares_struct name raw ctor
rule_of (Union name raw) = declares UnionItem (λ n. def.Union (record { 0 = n })) Types name raw
rule_of (Enum name raw) = declares EnumItem (λ n. def.Enum (record { 0 = n })) Types name raw
rule_of (Function name raw) = declares_function name raw
rule_of (Const (Some name) raw) = declares ConstItem (λ n. def.Const (record { 0 = n })) Values name raw
rule_of (Const None raw) = notes_const
rule_of (Static name raw) = declares StaticItem (λ n. def.Static (record { 0 = n })) Values name raw
rule_of (Trait name raw) = declares TraitItem (λ n. def.Trait (record { 0 = n })) Types name raw
rule_of (TypeAlias name raw) = declares TypeAliasItem (λ n. def.TypeAlias (record { 0 = n })) Types name raw

-- a rule is followed
abbrev pub Follows : Oracle → State → Site → ItemNode → Rule → Effect → Type 0
Follows oracle s site item (declares kind d ns name raw) effect =
    (n : ℕ) × IsNumber s kind site item n × (effect ≡ declared_effect s site.scope name ns (d n) (written_vis oracle s site.scope raw))
Follows oracle s site item (declares_struct name raw ctor) effect =
    (n : ℕ) × IsNumber s StructItem site item n
    × (effect ≡ struct_effect s site.scope name (def.Struct (record { 0 = n })) (written_vis oracle s site.scope raw) (ctor_vis oracle s site.scope ctor))
Follows oracle s site item (declares_function name raw) effect =
    (n : ℕ) × IsNumber s FunctionItem site item n
    × DeclaresFunction oracle s site item name (written_vis oracle s site.scope raw) (record { 0 = n }) (exported_macro s site item name) effect
Follows oracle s site item (opens_module name raw contents) effect = effect ≡ module_item oracle s site item name (written_vis oracle s site.scope raw) contents
Follows oracle s site item (opens_block children) effect =
    (n : ℕ) × IsNumber s ExternBlockItem site item n
    × (effect ≡ followed_by (noted_in s site.scope (with_extern_block (record { 0 = n }))) (walk oracle (record site { container = contained.ExternBlock (record { 0 = n }) }) children))
Follows oracle s site item (queues raw imports) effect =
    (n : ℕ) × IsNumber s UseItem site item n × (effect ≡ only (record s { imports = s.imports ++ new_imports site item (record { 0 = n }) raw imports }))
Follows oracle s site item (binds_crate name raw alias) effect =
    (n : ℕ) × IsNumber s ExternCrateItem site item n
    × (effect ≡ crate_effect (noted_in s site.scope (with_extern_crate (record { 0 = n }))) site item (record { 0 = n }) (crate_name name alias) (written_vis oracle s site.scope raw)
    (macros_brought oracle s item name (named_crate s name)) (named_crate s name))
Follows oracle s site item (notes_impl of_trait) effect =
    (n : ℕ) × IsNumber s ImplItem site item n × (effect ≡ only (noted_in s site.scope (with_impl (record { 0 = n }) of_trait)))
Follows oracle s site item notes_const effect =
    (n : ℕ) × IsNumber s ConstItem site item n × (effect ≡ only (noted_in s site.scope (with_unnamed_const (record { 0 = n }))))
Follows oracle s site item (defines_rules name) effect =
    (n : ℕ) × (found : Option Name) × IsBuiltinName s.session.text (attrs_of item.attrs) name found
    × (s.session.macro_at (macro_of.MacroRules (record { 0 = n })) ≡ Some (macro_loc s.map.krate.edition site item (rules_expander oracle s.map.id.krate site item found) (rules_flags item)))
    × (effect ≡ rules_effect s site item name (rules_expander oracle s.map.id.krate site item found) (macro_of.MacroRules (record { 0 = n })))
Follows oracle s site item (defines_macro name raw) effect =
    (n : ℕ) × (s.session.macro_at (macro_of.Macro2 (record { 0 = n })) ≡ Some (macro_loc s.map.krate.edition site item (item_expander oracle s.map.id.krate site item name) (item_flags item)))
    × (effect ≡ item_effect s site item name (written_vis oracle s site.scope raw) (item_expander oracle s.map.id.krate site item name) (macro_of.Macro2 (record { 0 = n })))
Follows oracle s site item (calls_macro written) effect = effect ≡ call_effect oracle s site item written

-- an item is handled, by its kind
abbrev pub Handles : Oracle → State → Site → ItemNode → ModItemKind → Effect → Type 0
Handles oracle s site item kind effect = Follows oracle s site item (rule_of kind) effect

-- so it is in a session that may have more locations, of this item
abbrev pub HandlesByKind : Oracle → State → Site → ItemNode → Effect → Type 0
HandlesByKind oracle s site item effect =
    (session : Session) × AddsOwn site item s.session session × Handles oracle (record s { session = session }) site item item.kind effect

-- an item is handled: the derives that are deferred for it give their impls, and then its kind's rule is followed
abbrev pub HandlesInSession : Oracle → State → Site → ItemNode → Effect → Type 0
HandlesInSession oracle s site item effect =
    (session : Session) × AddsOwn site item s.session session × (given : State) × ImplsAreGiven oracle (record s { session = session }) site item given
    × HandlesByKind oracle given site item effect

-- an item that cfg does not disable: one with an attribute that may be a macro waits for it, any other is handled
abbrev pub VisitsEnabled : Oracle → State → Site → ModItemId → ItemNode → Option (AttrId × Attr) → Effect → Type 0
VisitsEnabled oracle s site id item (Some attr) effect = effect ≡ only (queued s site item (awaiting site id attr))
VisitsEnabled oracle s site id item None effect = HandlesInSession oracle s site item effect

-- the item of this number: one that cfg disables is reported, and nothing else
abbrev pub VisitsNode : Oracle → State → Site → ModItemId → ItemNode → Option CfgExpr → Effect → Type 0
VisitsNode oracle s site id item (Some cfg) effect = effect ≡ only (reported s (diagnostic site item (UnconfiguredCode cfg)))
VisitsNode oracle s site id item None effect = VisitsEnabled oracle s site id item (awaited_attr oracle s site id item) effect

-- an item that the tree does not have is nothing
abbrev pub VisitsAt : Oracle → State → Site → ModItemId → Option ItemNode → Effect → Type 0
VisitsAt oracle s site id None effect = effect ≡ only s
VisitsAt oracle s site id (Some item) effect = VisitsNode oracle s site id item (disabled_by item.attrs) effect

-- an item is visited
abbrev pub Visits : Oracle → State → Site → ModItemId → Effect → Type 0
Visits oracle s site id effect = VisitsAt oracle s site id (node_at oracle site.tree id) effect
