-- Where modules and definitions stand.
use Rattle.std.specs.Prelude.{◌==◌, Bool, false, ℕ, Option, Some, None, slice_get, if◌then◌else◌}
use Rattle.std.specs.Option.{option_map, option_and_then}
use Rattle.tree_ids.specs.declared.ids.FileId.{FileId}
use Rattle.def_ids.specs.declared.ids.Def.{Def}
use Rattle.def_ids.specs.declared.ids.Def.TheVariants.{Module, Function, Struct, Union, Enum, Variant, Const, Static, Trait, TypeAlias, Builtin, Macro}
use Rattle.def_ids.specs.declared.ids.MacroId.{MacroId}
use Rattle.def_ids.specs.declared.ids.ModuleId.{ModuleId}
use Rattle.def_ids.specs.Ids.{is_same_map}
use Rattle.def_interner.specs.Session.{Session, ItemKind, FunctionItem, StructItem, UnionItem, EnumItem, ConstItem, StaticItem, TraitItem, TypeAliasItem}
use Rattle.def_modules.specs.declared.module_data.ModuleOrigin.{ModuleOrigin}
use Rattle.def_modules.specs.declared.module_data.ModuleOrigin.TheVariants.{CrateRoot, Block, Inline, File}
use Rattle.def_modules.specs.MapState.{MapState, ModuleState, Position}

-- whether this made a module with its items in that file
abbrev pub is_file_of : FileId → ModuleOrigin → Bool
is_file_of file CrateRoot = false
is_file_of file Block = false
is_file_of file (Inline definition tree) = false
is_file_of file (File declaration tree own is_mod_rs) = own.0 == file.0

-- whether a module was declared in a file, with its items in that one
abbrev pub is_module_of_file : FileId → ModuleState → Bool
is_module_of_file file m = is_file_of file m.origin

-- where a module of this origin is declared; a root is not
abbrev pub declared_at : ModuleOrigin → Option Position
declared_at CrateRoot = None
declared_at Block = None
declared_at (Inline definition tree) = Some (record { file = tree.file; value = definition })
declared_at (File declaration tree own is_mod_rs) = Some (record { file = tree.file; value = declaration })

-- where a module of a map is declared
abbrev pub module_declared : MapState → ModuleId → Option Position
module_declared s m = if is_same_map m.map s.id then option_and_then (λ it. declared_at it.origin) (slice_get s.modules m.index) else None

-- where an item is declared, if the session knows it
abbrev pub item_declared : Session → ItemKind → ℕ → Option Position
item_declared session kind id = option_map (λ loc. loc.position) (session.item kind id)

-- where a macro is declared, if the session knows it
abbrev pub macro_declared : Session → MacroId → Option Position
macro_declared session id = option_map (λ loc. loc.position) (session.macro_at id)

-- where a definition is declared: an item as the session knows it, a module as the map does; builtin types and variants have no place
abbrev pub position_in : Session → MapState → Def → Option Position
position_in session s (Module m) = module_declared s m
position_in session s (Function id) = item_declared session FunctionItem id.0
position_in session s (Struct id) = item_declared session StructItem id.0
position_in session s (Union id) = item_declared session UnionItem id.0
position_in session s (Enum id) = item_declared session EnumItem id.0
position_in session s (Variant id) = None
position_in session s (Const id) = item_declared session ConstItem id.0
position_in session s (Static id) = item_declared session StaticItem id.0
position_in session s (Trait id) = item_declared session TraitItem id.0
position_in session s (TypeAlias id) = item_declared session TypeAliasItem id.0
position_in session s (Builtin number) = None
position_in session s (Macro id) = macro_declared session id
