-- What an item does that declares a module.
use Rattle.std.specs.Prelude.{ℕ, Bool, true, false, ◌||◌, List, [], ◌∷◌, ◌++◌, length, Option, None, Some, Result, Ok, Err, unwrap_or}
use Rattle.item_tree.specs.declared.attrs.Attr.{Attr}
use Rattle.tree_ids.specs.declared.ids.CfgExpr.{CfgExpr}
use Rattle.tree_ids.specs.declared.ids.HirFileId.TheVariants.{File}
use Rattle.tree_ids.specs.declared.ids.ModItemId.{ModItemId}
use Rattle.tree_ids.specs.declared.ids.TreeId.{TreeId}
use Rattle.item_tree.specs.declared.items.ItemNode.{ItemNode}
use Rattle.item_tree.specs.declared.items.ModContents.{ModContents}
use Rattle.item_tree.specs.declared.items.ModContents.TheVariants.{Inline, Outline}
use Rattle.tree_ids.specs.declared.name.Name.{Name}
use Rattle.item_tree.specs.Attrs.{attrs_of, has_attr, path_attr}
use Rattle.item_tree.specs.KnownNames.{macro_use_name}
use Rattle.def_ids.specs.declared.ids.Def.TheVariants as def
use Rattle.def_ids.specs.declared.ids.ModuleId.{ModuleId}
use Rattle.def_interner.specs.Session.{Session}
use Rattle.def_bindings.specs.declared.bindings.Namespace.TheVariants.{Types}
use Rattle.def_bindings.specs.declared.visibility.Visibility.{Visibility}
use Rattle.def_modules.specs.declared.module_data.ModuleOrigin.{ModuleOrigin}
use Rattle.def_modules.specs.declared.module_data.ModuleOrigin.TheVariants as origin
use Rattle.def_modules.specs.Maps.{pushed, textual_at, with_module}
use Rattle.def_modules.specs.MapState.{MapState, ModuleState}
use Rattle.def_modules.specs.Scopes.{declared_in, empty_module, with_child, with_textual_of}
use Rattle.def_oracle.specs.Oracle.{Oracle}
use Rattle.def_readings.specs.Directories.{Directory, FoundFile, descend, files_of, resolve_declaration}
use Rattle.def_rules.specs.declared.diagnostics.DefDiagnosticKind.TheVariants.{UnconfiguredCode, UnresolvedModule}
use Rattle.def_rules.specs.Crates.{tree_attrs}
use Rattle.def_rules.specs.State.{State, Effect, only, followed_by, reported, with_map, Site, module_site, Task, Bring}
use Rattle.def_rules.specs.Items.{diagnostic, put_declared, top_items, tree_cfg, walk}

-- the next module of the map
abbrev pub next_module : State → ModuleId
next_module s = record { map = s.map.id; index = length s.map.modules }

-- a module with nothing in it but the textual macros of the one around it
abbrev pub fresh_module : MapState → ℕ → Name → Visibility → ModuleOrigin → ModuleState
fresh_module m parent name vis o = with_textual_of (textual_at m parent) (empty_module (Some name) o vis)

-- a state with a fresh module, which is declared in this one as its child
abbrev pub add_module : State → ModuleId → Name → Visibility → ModuleOrigin → State
add_module s at name vis o =
    with_map s
    (with_module
    (with_module (pushed s.map at.index (fresh_module s.map at.index name vis o)) at.index (with_child name (length s.map.modules)))
    at.index
    (declared_in (def.Module (next_module s))))

-- a module is added and put in types, and then its contents are walked
abbrev pub module_effect : State → Site → Name → Visibility → ModuleOrigin → List Task → Effect
module_effect s site name vis o contents =
    followed_by (add_module s site.scope name vis o) (put_declared site.scope name Types (def.Module (next_module s)) vis ∷ contents)

-- where the contents of the next module stand: as deep in expansions as its item
abbrev pub inner_site : State → Site → TreeId → Directory → Site
inner_site s site tree directory = module_site (next_module s) tree site.depth directory

-- whether attributes hand the textual macros of a module on to the one around it
abbrev pub is_macro_use : List Attr → Bool
is_macro_use attrs = has_attr macro_use_name attrs

-- what is done after the contents of a module: its textual macros are brought into the one around it, if they are handed on
abbrev pub bring_if : Bool → ModuleId → ModuleId → List Task
bring_if true from into = Bring from into ∷ []
bring_if false from into = []

-- an inline module's contents; a module that lies too deep keeps none, and hands nothing on
abbrev pub inline_contents : Oracle → State → Site → Bool → List ModItemId → Option Directory → List Task
inline_contents oracle s site brings children None = []
inline_contents oracle s site brings children (Some directory) =
    walk oracle (inner_site s site site.tree directory) children ++ bring_if brings (next_module s) site.scope

-- a name's text; an unknown name has none
abbrev pub name_text : Session → Name → List ℕ
name_text session name = unwrap_or (session.text name) []

-- the tree of a file that was found
abbrev pub file_tree : FoundFile → TreeId
file_tree found = record { file = File found.0; block = None }

-- an outline module whose file is found: where the file is enabled, the module is declared and the file walked; where it is not, this is reported and nothing declared
abbrev pub outline_found : Oracle → State → Site → ItemNode → Name → Visibility → FoundFile → Option CfgExpr → Effect
outline_found oracle s site item name vis found (Some cfg) = only (reported s (diagnostic site item (UnconfiguredCode cfg)))
outline_found oracle s site item name vis found None =
    module_effect s site name vis (origin.File item.ast_id site.tree found.0 found.1)
    (walk oracle (inner_site s site (file_tree found) found.2) (top_items oracle (file_tree found))
    ++ bring_if (is_macro_use (attrs_of item.attrs) || is_macro_use (tree_attrs oracle (file_tree found))) (next_module s) site.scope)

-- an outline module whose file is not found is declared empty, and reported with the files that were looked for
abbrev pub outline_item : Oracle → State → Site → ItemNode → Name → Visibility → Result FoundFile (List (List ℕ)) → Effect
outline_item oracle s site item name vis (Ok found) = outline_found oracle s site item name vis found (tree_cfg oracle (file_tree found))
outline_item oracle s site item name vis (Err files) =
    module_effect (reported s (diagnostic site item (UnresolvedModule files))) site name vis (origin.Inline item.ast_id site.tree) []

-- a module, with its items in braces or in a file of its own
abbrev pub module_item : Oracle → State → Site → ItemNode → Name → Visibility → ModContents → Effect
module_item oracle s site item name vis (Inline children) =
    module_effect s site name vis (origin.Inline item.ast_id site.tree)
    (inline_contents oracle s site (is_macro_use (attrs_of item.attrs)) children (descend site.directory (name_text s.session name) (path_attr item.attrs)))
module_item oracle s site item name vis Outline =
    outline_item oracle s site item name vis
    (resolve_declaration (files_of oracle) site.tree.file site.directory (name_text s.session name) (path_attr item.attrs))
