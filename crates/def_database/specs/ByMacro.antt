-- What was written down of calls, by the places where they stand and the macros that are found there.
use Rattle.std.specs.Prelude.{Bool, ◌&&◌, cond, Option, Some, None}
use Rattle.std.specs.Option.{option_or}
use Rattle.indexmap.specs.IndexMap.{IndexMap, get}
use Rattle.def_ids.specs.declared.ids.MacroId.{MacroId}
use Rattle.def_ids.specs.Equality.{macro_eq}
use Rattle.def_database.specs.declared.by_macro.ByMacro.{ByMacro}

-- the answer for each macro that may be found at a place: its own, or the one for all others
abbrev pub said : {A : Type 0} → Option (ByMacro A) → MacroId → Option A
said None macro_id = None
said (Some written) macro_id = option_or (get macro_eq written.each macro_id) written.others

-- the answer for each macro that may be found at each place
abbrev pub said_at : {P A S : Type 0} → (P → P → Bool) → IndexMap P (ByMacro A) S → P → MacroId → Option A
said_at eq written place macro_id = said (get eq written place) macro_id

-- the answers, once one is written down for where a macro is found at a place
abbrev pub with_said : {P A : Type 0} → (P → P → Bool) → (P → MacroId → Option A) → P → MacroId → A → P → MacroId → Option A
with_said eq answers place macro_id answer p m = cond (eq place p && macro_eq macro_id m) (Some answer) (answers p m)

-- the answers, once one is written down for whichever macro is found at a place
abbrev pub with_any_said : {P A : Type 0} → (P → P → Bool) → (P → MacroId → Option A) → P → A → P → MacroId → Option A
with_any_said eq answers place answer p m = cond (eq place p) (Some answer) (answers p m)
