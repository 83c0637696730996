-- How paths are asked.
use Rattle.std.specs.Prelude.{Option, Some, None}
use Rattle.def_sources.specs.declared.asked.Asked.{Asked}
use Rattle.def_sources.specs.declared.asked.BuiltinShadowMode.{BuiltinShadowMode}
use Rattle.def_sources.specs.declared.asked.BuiltinShadowMode.TheVariants as shadow
use Rattle.def_sources.specs.declared.asked.ResolveMode.{ResolveMode}
use Rattle.def_sources.specs.declared.asked.ResolveMode.TheVariants as mode
use Rattle.def_sources.specs.declared.per_ns.MacroSubNs.{MacroSubNs}

-- how a path is asked
abbrev pub asked_by : ResolveMode → BuiltinShadowMode → Option MacroSubNs → Asked
asked_by mode shadow sub = record { mode = mode; shadow = shadow; sub = sub }

-- how an import's path is asked
abbrev pub for_import : Asked
for_import = asked_by mode.Import shadow.Module None

-- how a macro's path is asked
abbrev pub for_macro : BuiltinShadowMode → MacroSubNs → Asked
for_macro shadow sub = asked_by mode.Other shadow (Some sub)

-- how a visibility's path is asked
abbrev pub for_module : Asked
for_module = asked_by mode.Other shadow.Module None
