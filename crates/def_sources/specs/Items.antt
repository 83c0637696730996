-- What a path finds that no table binds, and which macros it is asked for.
use Rattle.std.specs.Prelude.{Bool, true, false, ◌||◌, Option, Some, None, option_map}
use Rattle.def_ids.specs.declared.ids.Def.{Def}
use Rattle.def_ids.specs.declared.ids.Def.TheVariants.{Module, Macro}
use Rattle.def_ids.specs.declared.ids.MacroId.{MacroId}
use Rattle.def_ids.specs.declared.ids.ModuleId.{ModuleId}
use Rattle.def_ids.specs.declared.edition.Edition.{Edition}
use Rattle.def_ids.specs.declared.edition.Edition.TheVariants.{Edition2015, Edition2018, Edition2021, Edition2024}
use Rattle.def_interner.specs.declared.macro_def.MacroDefKind.{MacroDefKind}
use Rattle.def_interner.specs.MacroKinds.{is_fn_like, is_attribute, is_derive}
use Rattle.def_bindings.specs.declared.bindings.ImportOrExternCrate.TheVariants.{ExternCrate}
use Rattle.def_bindings.specs.declared.visibility.Visibility.TheVariants.{Public}
use Rattle.def_sources.specs.declared.asked.BuiltinShadowMode.{BuiltinShadowMode}
use Rattle.def_sources.specs.declared.asked.BuiltinShadowMode.TheVariants as shadow
use Rattle.def_sources.specs.declared.asked.ResolveMode.{ResolveMode}
use Rattle.def_sources.specs.declared.asked.ResolveMode.TheVariants as mode
use Rattle.def_sources.specs.declared.per_ns.MacroSubNs.{MacroSubNs}
use Rattle.def_sources.specs.declared.per_ns.MacroSubNs.TheVariants as sub
use Rattle.def_modules.specs.MapView.{ExternCrateEntry}
use Rattle.def_sources.specs.PerNs.{Item}
pub use Rattle.def_ids.specs.Ids.{module_of_def}

-- a public declaration
abbrev pub public_item : Def → Item
public_item def = record { def = def; vis = Public; import = None }

-- a module, as a public declaration
abbrev pub module_item : ModuleId → Item
module_item m = public_item (Module m)

-- the root of another crate, by the extern crate that put it there, if one did
abbrev pub extern_item : ExternCrateEntry → Item
extern_item entry = record { def = Module entry.root; vis = Public; import = option_map ExternCrate entry.by }

-- whether a definition is a module
abbrev pub is_module_def : Def → Bool
is_module_def (Module m) = true
is_module_def _ = false

-- whether an item is a module
abbrev pub is_module_item : Item → Bool
is_module_item item = is_module_def item.def

-- the macro that a definition is
abbrev pub macro_of_def : Def → Option MacroId
macro_of_def (Macro m) = Some m
macro_of_def _ = None

-- whether an edition is that of 2015
abbrev pub is_2015 : Edition → Bool
is_2015 Edition2015 = true
is_2015 Edition2018 = false
is_2015 Edition2021 = false
is_2015 Edition2024 = false

-- whether a path is an import's
abbrev pub is_for_import : ResolveMode → Bool
is_for_import mode.Import = true
is_for_import mode.Other = false

-- whether a builtin type goes before a module
abbrev pub is_builtin_first : BuiltinShadowMode → Bool
is_builtin_first shadow.Module = false
is_builtin_first shadow.Other = true

-- a macro that is called, or one that is an attribute or a derive
abbrev pub is_of_kind : MacroSubNs → MacroDefKind → Bool
is_of_kind sub.Bang kind = is_fn_like kind
is_of_kind sub.Attr kind = is_attribute kind || is_derive kind

-- a macro that the session does not know fits nothing
abbrev pub is_known_of_kind : MacroSubNs → Option MacroDefKind → Bool
is_known_of_kind asked None = false
is_known_of_kind asked (Some kind) = is_of_kind asked kind

-- whether a definition fits: what is no macro always does
abbrev pub does_fit : (MacroId → Option MacroDefKind) → MacroSubNs → Def → Bool
does_fit kind_of asked (Macro m) = is_known_of_kind asked (kind_of m)
does_fit kind_of asked _ = true

-- no macro, or a macro of the kind that is asked for
abbrev pub is_fitting : (MacroId → Option MacroDefKind) → Option MacroSubNs → Item → Bool
is_fitting kind_of None item = true
is_fitting kind_of (Some asked) item = does_fit kind_of asked item.def
