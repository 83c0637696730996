-- What the numbers of bindings in short mean.
use Rattle.std.specs.Prelude.{ℕ, Option, Some, None}
use Rattle.def_ids.specs.declared.ids.MapId.{MapId}
use Rattle.def_ids.specs.declared.ids.Def.{Def}
use Rattle.def_ids.specs.declared.ids.Def.TheVariants as def
use Rattle.def_ids.specs.declared.ids.MacroId.TheVariants as macro
use Rattle.def_bindings.specs.declared.bindings.Binding.{Binding}
use Rattle.def_bindings.specs.declared.bindings.ImportOrExternCrate.{ImportOrExternCrate}
use Rattle.def_bindings.specs.declared.bindings.ImportOrExternCrate.TheVariants as origin
use Rattle.def_tables.specs.declared.short.Short.{Short}
use Rattle.def_tables.specs.declared.short.Kind.{Kind}
use Rattle.def_tables.specs.declared.short.Kind.TheVariants.{Module, Function, Struct, Union, Enum, Variant, Const, Static, Trait, TypeAlias, MacroRules, Macro2, ProcMacro}
use Rattle.def_tables.specs.declared.short.Source.{Source}
use Rattle.def_tables.specs.declared.short.Source.TheVariants.{Declaration, Import, Glob, ExternCrate}

-- the definition of a kind with a number; a module is one of the map
abbrev pub long_def : MapId → Kind → ℕ → Def
long_def map Module n = def.Module (record { map = map; index = n })
long_def map Function n = def.Function (record { 0 = n })
long_def map Struct n = def.Struct (record { 0 = n })
long_def map Union n = def.Union (record { 0 = n })
long_def map Enum n = def.Enum (record { 0 = n })
long_def map Variant n = def.Variant (record { 0 = n })
long_def map Const n = def.Const (record { 0 = n })
long_def map Static n = def.Static (record { 0 = n })
long_def map Trait n = def.Trait (record { 0 = n })
long_def map TypeAlias n = def.TypeAlias (record { 0 = n })
long_def map MacroRules n = def.Macro (macro.MacroRules (record { 0 = n }))
long_def map Macro2 n = def.Macro (macro.Macro2 (record { 0 = n }))
long_def map ProcMacro n = def.Macro (macro.ProcMacro (record { 0 = n }))

-- what brought a binding, by its source and the numbers of the import
abbrev pub long_import : Source → ℕ → ℕ → Option ImportOrExternCrate
long_import Declaration id idx = None
long_import Import id idx = Some (origin.Import (record { use_id = record { 0 = id }; idx = idx }))
long_import Glob id idx = Some (origin.Glob (record { use_id = record { 0 = id }; idx = idx }))
long_import ExternCrate id idx = Some (origin.ExternCrate (record { 0 = id }))

-- a binding, by what its visibility is kept as
abbrev pub long : {V K : Type 0} → (MapId → K → V) → MapId → Short K → Binding V
long meaning map s = record { def = long_def map s.kind s.def; vis = meaning map s.vis; import = long_import s.source s.import s.idx }
