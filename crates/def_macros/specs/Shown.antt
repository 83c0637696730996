-- What the parts of the state that a macro's definition changes stand for.
use Rattle.std.specs.Prelude.{List}
use Rattle.def_items.specs.Parts.{with_parts}
use Rattle.def_modules.specs.declared.map.MapData.{MapData}
use Rattle.def_rules.specs.declared.diagnostics.DefDiagnostic.{DefDiagnostic}
use Rattle.def_rules.specs.State.{State}
use Rattle.def_sources.specs.Tables.{Table}

-- a state with these diagnostics, and whose map and table are these
abbrev pub with_told : State → List DefDiagnostic → MapData → Table → State
with_told s diagnostics def_map table = record (with_parts s def_map table) { diagnostics = diagnostics }
