-- Macros: what their items define, and which macros a module or an extern crate hands on.
use Rattle.std.specs.Prelude.{◌≡◌, ℕ, Bool, true, false, cond, ◌&&◌, not, List, [], ◌∷◌, Option, None, Some, is_some, option_and_then, option_map, unwrap_or}
use Rattle.std.specs.List.{flat_map, list_any}
use Rattle.std.specs.Option.{option_map_or}
use Rattle.either.specs.declared.Either.{Either}
use Rattle.either.specs.declared.Either.TheVariants.{Left, Right}
use Rattle.item_tree.specs.declared.attrs.Attr.{Attr}
use Rattle.tree_ids.specs.declared.ids.Crate.{Crate}
use Rattle.tree_ids.specs.declared.ids.SyntaxContext.{SyntaxContext}
use Rattle.item_tree.specs.declared.items.ItemNode.{ItemNode}
use Rattle.tree_ids.specs.declared.macro_flags.MacroRulesLocFlags.{MacroRulesLocFlags}
use Rattle.item_tree.specs.declared.mod_path.ModPath.{ModPath}
use Rattle.tree_ids.specs.declared.name.Name.{Name}
use Rattle.item_tree.specs.Attrs.{attrs_of, has_attr, has_key, string_value, tt_values}
use Rattle.item_tree.specs.KnownNames.{name_eq, allow_internal_unsafe_name, local_inner_macros_name, macro_export_name, macro_use_name, rustc_builtin_macro_name, self_name}
use Rattle.item_tree.specs.Lists.{first_of_list, or_else}
use Rattle.item_tree.specs.Names.{IsNameOf}
use Rattle.item_tree.specs.Paths.{as_ident}
use Rattle.item_tree.specs.TokenTrees.{TokenTrees, elements, element_ident}
use Rattle.def_ids.specs.declared.ids.Def.TheVariants as def
use Rattle.def_ids.specs.declared.ids.MacroId.{MacroId}
use Rattle.def_ids.specs.declared.ids.ModuleId.{ModuleId}
use Rattle.def_ids.specs.declared.expander.MacroExpander.{MacroExpander}
use Rattle.def_ids.specs.declared.expander.MacroExpander.TheVariants.{Declarative, BuiltIn, BuiltInEager, BuiltInAttr, BuiltInDerive, UnimplementedBuiltIn}
use Rattle.def_interner.specs.MacroKinds.{kind_of_expander}
use Rattle.def_ids.specs.declared.edition.Edition.{Edition}
use Rattle.def_interner.specs.Session.{MacroLoc}
use Rattle.def_bindings.specs.declared.bindings.Binding.{Binding}
use Rattle.def_bindings.specs.declared.bindings.Namespace.TheVariants.{Macros}
use Rattle.def_bindings.specs.declared.visibility.Visibility.{Visibility}
use Rattle.def_bindings.specs.declared.visibility.Visibility.TheVariants.{Public}
use Rattle.def_bindings.specs.Content.{Content}
use Rattle.def_modules.specs.Maps.{with_exported, with_macro_at, with_macro_use, with_module}
use Rattle.def_modules.specs.MapState.{MapState}
use Rattle.def_modules.specs.MapView.{MapView}
use Rattle.def_modules.specs.Scopes.{with_textual}
use Rattle.def_oracle.specs.Oracle.{Oracle}
use Rattle.def_readings.specs.DeriveNames.{NameAndHelpers, is_word, name_and_helpers}
use Rattle.def_sources.specs.Items.{macro_of_def}
use Rattle.def_paths.specs.Paths.{map_of}
use Rattle.def_sources.specs.Sources.{World}
use Rattle.def_rules.specs.declared.diagnostics.DefDiagnosticKind.TheVariants.{UnimplementedBuiltinMacro}
use Rattle.def_rules.specs.Items.{declared_effect, diagnostic, position_of}
use Rattle.def_rules.specs.State.{State, Effect, only, reported, root, with_map, Site, world}

-- What expands a macro

-- whether a macro is marked as builtin
abbrev pub is_builtin : ItemNode → Bool
is_builtin item = has_attr rustc_builtin_macro_name (attrs_of item.attrs)

-- a builtin that is expanded as it stands, or one that expands its arguments first
abbrev pub plain_or_eager : Either ℕ ℕ → MacroExpander
plain_or_eager (Left n) = BuiltIn n
plain_or_eager (Right n) = BuiltInEager n

-- the builtin macro of a name
abbrev pub builtin_macro : Oracle → Name → Option MacroExpander
builtin_macro oracle name = option_map plain_or_eager (oracle.find_builtin_macro name)

-- the builtin that a `macro` item is: a macro, else a derive, else an attribute
abbrev pub builtin_item : Oracle → Name → Option MacroExpander
builtin_item oracle name =
    or_else (builtin_macro oracle name)
    (or_else (option_map (λ n. BuiltInDerive n) (oracle.find_builtin_derive name)) (option_map (λ attr. BuiltInAttr attr) (oracle.find_builtin_attr name)))

-- any other macro is expanded by its own rules
abbrev pub own_rules : Oracle → Crate → Site → ItemNode → MacroExpander
own_rules oracle krate site item = Declarative (oracle.rule_styles (position_of site item) krate)

-- a macro that is marked as builtin is expanded by the builtin that was found, if one was
abbrev pub expander_of : Oracle → Crate → Site → ItemNode → Option MacroExpander → MacroExpander
expander_of oracle krate site item builtin = cond (is_builtin item) (unwrap_or builtin UnimplementedBuiltIn) (own_rules oracle krate site item)

-- the identifier that token trees begin with
abbrev pub first_ident : TokenTrees → Option Name
first_ident trees = option_and_then element_ident (first_of_list (elements trees))

-- the name that the first token tree of `rustc_builtin_macro` begins with, else the macro's own
abbrev pub listed_name : List Attr → Name → Name
listed_name attrs own = unwrap_or (option_and_then first_ident (first_of_list (tt_values rustc_builtin_macro_name attrs))) own

-- the name of a text, where one is written, else this name
abbrev pub IsNamedBy : (Name → Option (List ℕ)) → Option (List ℕ) → Name → Option Name → Type 0
IsNamedBy text_of None name found = found ≡ Some name
IsNamedBy text_of (Some text) name found = IsNameOf text_of text found

-- the name that a builtin by rules is looked up by, if it is the name of anything: the text of its attribute, else a listed one, else its own
abbrev pub IsBuiltinName : (Name → Option (List ℕ)) → List Attr → Name → Option Name → Type 0
IsBuiltinName text_of attrs own found = IsNamedBy text_of (string_value rustc_builtin_macro_name attrs) (listed_name attrs own) found

-- what expands a macro by rules, if it is looked up by this name
abbrev pub rules_expander : Oracle → Crate → Site → ItemNode → Option Name → MacroExpander
rules_expander oracle krate site item found = expander_of oracle krate site item (option_and_then (builtin_macro oracle) found)

-- what expands a `macro` item
abbrev pub item_expander : Oracle → Crate → Site → ItemNode → Name → MacroExpander
item_expander oracle krate site item name = expander_of oracle krate site item (builtin_item oracle name)

-- Where a macro stands

-- whether token trees directly hold this identifier
abbrev pub holds_word : Name → TokenTrees → Bool
holds_word name trees = list_any (λ element. is_word (element_ident element) name) (elements trees)

-- whether a tree of `macro_export` directly holds `local_inner_macros`
abbrev pub is_local_inner : List Attr → Bool
is_local_inner attrs = list_any (holds_word local_inner_macros_name) (tt_values macro_export_name attrs)

-- the flags of a macro: whether its inner calls stand for local macros, and whether unsafe code is allowed within
abbrev pub flags_of : Bool → Bool → MacroRulesLocFlags
flags_of false false = record { 0 = 0 }
flags_of true false = record { 0 = 1 }
flags_of false true = record { 0 = 2 }
flags_of true true = record { 0 = 3 }

-- a macro by rules may have both
abbrev pub rules_flags : ItemNode → MacroRulesLocFlags
rules_flags item = flags_of (is_local_inner (attrs_of item.attrs)) (has_attr allow_internal_unsafe_name (attrs_of item.attrs))

-- a `macro` item has the second alone
abbrev pub item_flags : ItemNode → MacroRulesLocFlags
item_flags item = flags_of false (has_attr allow_internal_unsafe_name (attrs_of item.attrs))

-- where a macro stands, and what it is
abbrev pub macro_loc : Edition → Site → ItemNode → MacroExpander → MacroRulesLocFlags → MacroLoc
macro_loc edition site item expander flags =
    record { container = site.scope; position = position_of site item; kind = kind_of_expander expander; flags = flags; edition = edition }

-- What a macro defines

-- a builtin that is not implemented is reported
abbrev pub unimplemented_reported : State → Site → ItemNode → MacroExpander → State
unimplemented_reported s site item UnimplementedBuiltIn = reported s (diagnostic site item UnimplementedBuiltinMacro)
unimplemented_reported s site item _ = s

-- a macro by rules is the last textual macro of its name, and its position leads to it
abbrev pub textual_state : State → Site → ItemNode → Name → MacroId → State
textual_state s site item name id = with_map s (with_macro_at (with_module s.map site.scope.index (with_textual name id)) (position_of site item) id)

-- one that is exported is declared in the map's root, and put there in macros, public
abbrev pub export_effect : State → Bool → Name → MacroId → Effect
export_effect s false name id = only s
export_effect s true name id = declared_effect s (root s.map) name Macros (def.Macro id) Public

-- what a macro by rules does
abbrev pub rules_effect : State → Site → ItemNode → Name → MacroExpander → MacroId → Effect
rules_effect s site item name expander id =
    export_effect (textual_state (unimplemented_reported s site item expander) site item name id) (has_attr macro_export_name (attrs_of item.attrs)) name id

-- the helpers that a builtin derive lists
abbrev pub listed_helpers : ItemNode → MacroExpander → Option NameAndHelpers
listed_helpers item (BuiltInDerive n) =
    option_and_then (λ trees. name_and_helpers (elements trees)) (first_of_list (tt_values rustc_builtin_macro_name (attrs_of item.attrs)))
listed_helpers item _ = None

-- helpers are shown to other crates, but for those of a block's macro
abbrev pub showing_helpers : Bool → MacroId → Option NameAndHelpers → MapState → MapState
showing_helpers in_block id None m = m
showing_helpers true id (Some read) m = m
showing_helpers false id (Some read) m = record m { krate = with_exported m.krate id read.helpers }

-- the state in which a `macro` item has its helpers, and its position leads to it
abbrev pub item_state : State → Site → ItemNode → MacroExpander → MacroId → State
item_state s site item expander id = with_map s (with_macro_at (showing_helpers (is_some s.map.id.block) id (listed_helpers item expander) s.map) (position_of site item) id)

-- what defining a `macro` item does: it is declared and put in macros, and has no textual scope
abbrev pub defined_effect : State → Site → ItemNode → Name → Visibility → MacroExpander → MacroId → Effect
defined_effect s site item name vis expander id = declared_effect (item_state s site item expander id) site.scope name Macros (def.Macro id) vis

-- what a `macro` item does
abbrev pub item_effect : State → Site → ItemNode → Name → Visibility → MacroExpander → MacroId → Effect
item_effect s site item name vis expander id = defined_effect (unimplemented_reported s site item expander) site item name vis expander id

-- Macros that an extern crate brings

-- whether an attribute is a `#[macro_use]` that lists no names, and so takes all macros
abbrev pub is_whole : Attr → Bool
is_whole attr = has_key macro_use_name attr && not (is_some attr.paths)

-- a macro under a name, if there is one
abbrev pub under : Name → Option MacroId → List (Name × MacroId)
under name None = []
under name (Some id) = (name, id) ∷ []

-- the macro that a module binds to a name
abbrev pub macro_in : Content Visibility → ModuleId → Name → List (Name × MacroId)
macro_in content at name = under name (option_and_then (λ (held : Binding Visibility). macro_of_def held.def) (content.binding at name Macros))

-- the macro of a path that is listed: of a plain one with one segment
abbrev pub macro_by : Content Visibility → ModuleId → ModPath × SyntaxContext → List (Name × MacroId)
macro_by content at listed = option_map_or (macro_in content at) (as_ident listed.0) []

-- the macros that a `#[macro_use]` lists
abbrev pub listed_macros : Content Visibility → ModuleId → Attr → List (Name × MacroId)
listed_macros content at attr = cond (has_key macro_use_name attr) (flat_map (macro_by content at) (unwrap_or attr.paths [])) []

-- the macros of a module that these attributes take: all, in the order in which their names were first bound, or those that are listed, in order
abbrev pub taken_in : Content Visibility → ModuleId → List Attr → List (Name × MacroId)
taken_in content at attrs = cond (list_any is_whole attrs) (flat_map (macro_in content at) (content.names at)) (flat_map (listed_macros content at) attrs)

-- the macros of a module that these attributes take; one whose map is not there has none
abbrev pub taken_by : World → ModuleId → List Attr → List (Name × MacroId)
taken_by w at attrs = option_map_or (λ (map : MapView). taken_in map.content at attrs) (map_of w at.map) []

-- the macros that an extern crate brings by its `#[macro_use]`; the crate itself brings none
abbrev pub macros_brought : Oracle → State → ItemNode → Name → Option ModuleId → List (Name × MacroId)
macros_brought oracle s item name None = []
macros_brought oracle s item name (Some at) = cond (name_eq name self_name) [] (taken_by (world oracle s) at (attrs_of item.attrs))

-- a map whose paths may begin with these macros, each in the place of an earlier one of its name
abbrev pub taking : List (Name × MacroId) → MapState → MapState
taking [] m = m
taking (taken ∷ rest) m = taking rest (with_macro_use m taken.0 taken.1)

-- the state with the macros that an extern crate at a crate's root brings
abbrev pub taking_macros : Bool → List (Name × MacroId) → State → State
taking_macros false taken s = s
taking_macros true taken s = with_map s (taking taken s.map)
