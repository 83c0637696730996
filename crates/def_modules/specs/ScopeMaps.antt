-- What a scope keeps by key.
use Rattle.std.specs.Prelude.{◌≡◌, ◌++◌, ℕ, Bool, true, cond, ◌&&◌, ◌==◌, List, [], ◌∷◌, Option, None, Some, map, reverse}
use Rattle.std.specs.Option.{option_map_or}
use Rattle.indexmap.specs.IndexMap.{IndexMap, get}
use Rattle.indexmap.specs.IndexSet.{IndexSet, contains}
use Rattle.tree_ids.specs.declared.ids.AttrId.{AttrId}
use Rattle.tree_ids.specs.declared.ids.MacroCallId.{MacroCallId}
use Rattle.tree_ids.specs.declared.name.Name.{Name}
use Rattle.def_ids.specs.declared.ids.MacroId.{MacroId}
use Rattle.def_bindings.specs.Content.{is_name}
use Rattle.def_modules.specs.declared.module_data.DeriveKey.{DeriveKey}
use Rattle.def_modules.specs.declared.module_data.DeriveMacroInvocation.{DeriveMacroInvocation}
use Rattle.def_modules.specs.declared.module_data.DeriveRecords.{DeriveRecords}
use Rattle.def_modules.specs.declared.module_data.Invocation.{Invocation}
use Rattle.def_modules.specs.Equality.{derive_key_eq, invocation_eq, position_eq}
use Rattle.def_modules.specs.MapState.{DeriveState, DeriveCall, Position}
use Rattle.def_modules.specs.Updates.{set_where, update_at}

-- the textual macros of each name, the last one first
abbrev pub textual_of : {S : Type 0} → IndexMap Name (List MacroId) S → Name → List MacroId
textual_of macros name = option_map_or reverse (get is_name macros name) []

-- one more macro of a name, before the others
abbrev pub with_first : (Name → List MacroId) → Name → MacroId → Name → List MacroId
with_first textual name macro_id = set_where (is_name name) (macro_id ∷ textual name) textual

-- macros with the last one of others before them
abbrev pub with_last : List MacroId → List MacroId → List MacroId
with_last [] own = own
with_last (last ∷ rest) own = last ∷ own

-- a name with the first macro of a list
abbrev pub named_first : Name → List MacroId → List (Name × MacroId)
named_first name [] = []
named_first name (last ∷ before) = (name, last) ∷ []

-- the last macro of each name, as pairs
abbrev pub last_macros : List (Name × List MacroId) → List (Name × MacroId)
last_macros [] = []
last_macros (e ∷ es) = named_first e.0 (reverse e.1) ++ last_macros es

-- textual macros after these are defined in turn
abbrev pub defined_all : (Name → List MacroId) → List (Name × MacroId) → Name → List MacroId
defined_all textual [] = textual
defined_all textual (p ∷ ps) = defined_all (with_first textual p.0 p.1) ps

-- defining these in turn brings the last macro of each name
abbrev pub AreLastOf : (Name → List MacroId) → List (Name × MacroId) → Type 0
AreLastOf textual pairs = (own : Name → List MacroId) → defined_all own pairs ≡ (λ x. with_last (textual x) (own x))

-- a derive attribute's call, and what its list gave
abbrev pub derive_state : DeriveMacroInvocation → DeriveState
derive_state d = record { call = d.call; calls = d.calls.items }

-- the records of a derive attribute, in order
abbrev pub records_in : DeriveRecords → List DeriveState
records_in records = derive_state records.first ∷ map derive_state records.later

-- one record more, behind the others
abbrev pub with_record : Option DeriveRecords → DeriveMacroInvocation → DeriveRecords
with_record None derive = record { first = derive; later = [] }
with_record (Some records) derive = record records { later = records.later ++ derive ∷ [] }

-- so under a key, and nothing else
abbrev pub PushesRecord : {K : Type 0} → (K → K → Bool) → (K → Option DeriveRecords) → (K → Option DeriveRecords) → K → DeriveMacroInvocation → Type 0
PushesRecord eq old new key derive = (q : _) → new q ≡ cond (eq key q) (Some (with_record (old key) derive)) (old q)

-- those of each position and attribute
abbrev pub derives_of : {S : Type 0} → IndexMap DeriveKey DeriveRecords S → Position → AttrId → List DeriveState
derives_of derives position attr = option_map_or records_in (get derive_key_eq derives (record { position = position; attr = attr })) []

-- whether a derive is the one of this position and attribute
abbrev pub is_derive_of : Position → AttrId → Position → AttrId → Bool
is_derive_of position attr p a = position_eq position p && (attr.0 == a.0)

-- the records of one derive attribute set
abbrev pub derive_set : (Position → AttrId → List DeriveState) → Position → AttrId → List DeriveState → Position → AttrId → List DeriveState
derive_set derives position attr records p a = cond (is_derive_of position attr p a) records (derives p a)

-- one record of it more, behind the others
abbrev pub derive_recorded : (Position → AttrId → List DeriveState) → Position → AttrId → DeriveState → Position → AttrId → List DeriveState
derive_recorded derives position attr derive = derive_set derives position attr (derives position attr ++ derive ∷ [])

-- a derive with this call at a place of its list
abbrev pub with_call : ℕ → DeriveCall → DeriveState → DeriveState
with_call pos call derive = record derive { calls = update_at derive.calls pos (λ before. Some call) }

-- the first record of it with this call at a place of its list, if it is there
abbrev pub derive_called : (Position → AttrId → List DeriveState) → Position → AttrId → ℕ → DeriveCall → Position → AttrId → List DeriveState
derive_called derives position attr pos call = derive_set derives position attr (update_at (derives position attr) 0 (with_call pos call))

-- whether a call is recorded at a position
abbrev pub invoked_of : {S : Type 0} → IndexSet Invocation S → Position → MacroCallId → Bool
invoked_of calls position call = contains invocation_eq calls (record { position = position; call = call })

-- whether a call at a position is this one
abbrev pub is_call_of : Position → MacroCallId → Position → MacroCallId → Bool
is_call_of position call p c = position_eq position p && (call.0 == c.0)

-- one call more
abbrev pub invoked_with : (Position → MacroCallId → Bool) → Position → MacroCallId → Position → MacroCallId → Bool
invoked_with invoked position call p c = cond (is_call_of position call p c) true (invoked p c)
