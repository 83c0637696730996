-- What macro calls are answered, by what was written down of them.
use Rattle.std.specs.Prelude.{Bool, false, true, ◌==◌, ◌&&◌, ◌-◌, ◌^◌, cond, List, [], ◌∷◌, Option, Some, None, unwrap_or, Result, Ok, Err}
use Rattle.tree_ids.specs.declared.ids.MacroCallId.{MacroCallId}
use Rattle.tree_ids.specs.declared.macro_flags.MacroCallStyles.{MacroCallStyles}
use Rattle.def_ids.specs.declared.ids.MacroId.{MacroId}
use Rattle.def_interner.specs.declared.macro_def.MacroDefId.{MacroDefId}
use Rattle.def_ids.specs.Equality.{macro_eq}
use Rattle.def_modules.specs.Equality.{position_eq}
use Rattle.def_modules.specs.MapState.{Position}
use Rattle.def_modules.specs.Updates.{set_where}
use Rattle.def_map.specs.Oracle.{Oracle}
use Rattle.def_map.specs.Queries.{PlainCall, PlainAttrCall}
use Rattle.def_oracle.specs.declared.source_database.DeriveCallQuery.{DeriveCallQuery}
use Rattle.def_oracle.specs.declared.source_database.CallAnswer.{CallAnswer}
use Rattle.def_oracle.specs.declared.source_database.UnresolvedMacro.{UnresolvedMacro}
use Rattle.def_database.specs.declared.database.DeriveCallKey.{DeriveCallKey}
use Rattle.def_database.specs.declared.database.DerivePlace.{DerivePlace}

-- whether two macro calls are one
abbrev pub call_eq : MacroCallId → MacroCallId → Bool
call_eq a b = a.0 == b.0

-- whether two places of derives are one
abbrev pub derive_place_eq : DerivePlace → DerivePlace → Bool
derive_place_eq a b = position_eq a.position b.position && ((a.attr_id.0 == b.attr_id.0) && (a.pos == b.pos))

-- the answer of a call that gives nothing
abbrev pub no_expansion : CallAnswer
no_expansion = record { value = None; err = None; inner = [] }

-- the answer of a call, by what is found for its path
abbrev pub call_answer : (Position → MacroId → Option CallAnswer) → PlainCall → List (Option MacroDefId) → Result CallAnswer UnresolvedMacro
call_answer answers query (Some found ∷ _) = Ok (unwrap_or (answers query.position found.id) no_expansion)
call_answer answers query (None ∷ _) = Err (record { path = query.path })
call_answer answers query [] = Err (record { path = query.path })

-- whether a macro is found for a call's path, and a test holds of the call's position and that macro
abbrev pub is_call_of : (Position → MacroId → Bool) → PlainCall → List (Option MacroDefId) → Bool
is_call_of test query (Some found ∷ _) = test query.position found.id
is_call_of test query _ = false

-- the answer of the call at a position, where this macro is found for its path
abbrev pub with_call : Oracle → Position → MacroId → CallAnswer → Oracle
with_call o position macro_id answer =
    record o { macro_call = λ query found. cond (is_call_of (λ p m. position_eq position p && macro_eq macro_id m) query found) (Ok answer) (o.macro_call query found) }

-- the answer of the call at a position, whichever macro is found for its path
abbrev pub with_call_at : Oracle → Position → CallAnswer → Oracle
with_call_at o position answer = record o { macro_call = λ query found. cond (is_call_of (λ p m. position_eq position p) query found) (Ok answer) (o.macro_call query found) }

-- a call that nothing was written down of
abbrev pub no_call : MacroCallId
no_call = record { 0 = 2 ^ 64 - 1 }

-- the call of an attribute macro
abbrev pub attr_call : (Position → MacroId → Option MacroCallId) → PlainAttrCall → MacroCallId
attr_call calls query = unwrap_or (calls query.position query.macro_def.id) no_call

-- the call of an attribute macro on the item at a position
abbrev pub with_attr_call : Oracle → Position → MacroId → MacroCallId → Oracle
with_attr_call o position macro_id call =
    record o { make_attr_call = λ query. cond (position_eq position query.position && macro_eq macro_id query.macro_def.id) call (o.make_attr_call query) }

-- the call of the attribute macros on the item at a position, whichever they are
abbrev pub with_attr_call_at : Oracle → Position → MacroCallId → Oracle
with_attr_call_at o position call = record o { make_attr_call = λ query. cond (position_eq position query.position) call (o.make_attr_call query) }

-- where the derive that is asked for stands
abbrev pub derive_place : DeriveCallQuery → DerivePlace
derive_place query = record { position = query.position; attr_id = query.attr_id; pos = query.pos }

-- the call of a derive
abbrev pub derive_call : (DerivePlace → MacroId → Option MacroCallId) → DeriveCallQuery → MacroCallId
derive_call calls query = unwrap_or (calls (derive_place query) query.macro_def.id) no_call

-- where the derive of a key stands
abbrev pub place_of : DeriveCallKey → DerivePlace
place_of key = record { position = key.position; attr_id = key.attr_id; pos = key.pos }

-- the call of a derive at a place of an attribute's list
abbrev pub with_derive_call : Oracle → DeriveCallKey → MacroCallId → Oracle
with_derive_call o key call =
    record o { make_derive_call = λ query. cond (derive_place_eq (place_of key) (derive_place query) && macro_eq key.macro_id query.macro_def.id) call (o.make_derive_call query) }

-- the call of the derive at a place of an attribute's list, whichever macro is found for its path
abbrev pub with_derive_call_at : Oracle → DerivePlace → MacroCallId → Oracle
with_derive_call_at o place call = record o { make_derive_call = λ query. cond (derive_place_eq place (derive_place query)) call (o.make_derive_call query) }

-- a macro that is called as `m!(..)` alone
abbrev pub fn_like : MacroCallStyles
fn_like = record { 0 = 1 }

-- the ways in which the macro at a position may be called
abbrev pub with_styles : Oracle → Position → MacroCallStyles → Oracle
with_styles o position styles = record o { rule_styles = λ p krate. cond (position_eq position p) styles (o.rule_styles p krate) }

-- one more call of `include!`
abbrev pub with_include : Oracle → MacroCallId → Oracle
with_include o call = record o { is_include = set_where (call_eq call) true o.is_include }
