-- What the oracle answers: as its database does, but for macro calls and the files behind expansions.
use Rattle.std.specs.Prelude.{Bool, true, false, cond, nat_eq, ℕ, List, [], ◌∷◌, Option, Some, None, Result, Ok, Err, unwrap_or}
use Rattle.indexmap.specs.IndexMap.{get}
use Rattle.item_tree.specs.KnownNames.{name_eq}
use Rattle.item_tree.specs.Paths.{as_ident}
use Rattle.tree_ids.specs.declared.name.Name.{Name}
use Rattle.tree_ids.specs.declared.ids.FileId.{FileId}
use Rattle.tree_ids.specs.declared.ids.HirFileId.{HirFileId}
use Rattle.tree_ids.specs.declared.ids.HirFileId.TheVariants.{File, Macro}
use Rattle.tree_ids.specs.declared.ids.MacroCallId.{MacroCallId}
use Rattle.def_ids.specs.Equality.{macro_eq}
use Rattle.def_ids.specs.declared.ids.MacroId.{MacroId}
use Rattle.def_interner.specs.declared.macro_def.MacroDefId.{MacroDefId}
use Rattle.def_interner.specs.declared.macro_def.MacroDefKind.{MacroDefKind}
use Rattle.def_interner.specs.declared.macro_def.MacroDefKind.TheVariants.{Declarative, BuiltInEager}
use Rattle.def_modules.specs.Equality.{position_eq}
use Rattle.def_modules.specs.MapState.{Position}
use Rattle.def_map.specs.MapStates.{MapStates}
use Rattle.def_map.specs.Oracle as asked
use Rattle.def_map.specs.Queries.{PlainCall}
use Rattle.def_oracle.specs.declared.source_database.CallAnswer.{CallAnswer}
use Rattle.def_oracle.specs.declared.source_database.UnresolvedMacro.{UnresolvedMacro}
use Rattle.def_database.specs.Calls.{call_eq}
use Rattle.def_database.specs.Database as database
use Rattle.rust_oracle.specs.declared.oracle.Oracle.{Oracle}
use Rattle.rust_oracle.specs.Numbers.{call_number, code_of}

-- the lower half of a call's number: the number of the macro's definition, or that of the one that is guessed, or else the macro's own
abbrev pub code_in : Option ℕ → Option ℕ → Option ℕ → Option ℕ
code_in (Some definition) guess own = Some definition
code_in None (Some definition) own = Some definition
code_in None None own = own

-- the lower half of the number of what the call at a place gives, by the macro that is found
abbrev pub code_at : Oracle → Position → MacroId → Option ℕ
code_at o position id = code_in (get macro_eq o.definitions id) (get position_eq o.guesses position) (code_of id)

-- the number of a call, by what was written down of its place, and by the lower half
abbrev pub number_at : Option ℕ → Option ℕ → Option MacroCallId
number_at (Some place) (Some code) = Some (call_number place code)
number_at _ _ = None

-- whether calls of a macro have numbers: of one by rules, and of the builtin that has the number 0, `include`
abbrev pub is_numbered : MacroDefKind → Bool
is_numbered (Declarative styles) = true
is_numbered (BuiltInEager number) = nat_eq number 0
is_numbered _ = false

-- the number of what the call at a place gives, by the macro that is found
abbrev pub number_of : Oracle → Position → MacroDefId → Option MacroCallId
number_of o position found =
    cond (is_numbered found.kind) (number_at (get position_eq o.places position) (code_at o position found.id)) None

-- the definition of the macro that is implied by a name alone
abbrev pub implied_by : (Name → Option ℕ) → Option Name → Option ℕ
implied_by known (Some name) = known name
implied_by known None = None

-- the number of what the call at a place gives where no macro is found, by its path's name if that stands alone
abbrev pub implied_at : Oracle → Position → Option Name → Option MacroCallId
implied_at o position name = number_at (get position_eq o.places position) (implied_by (get name_eq o.implied) name)

-- the answer of a call for whose path no macro is found
abbrev pub unfound_answer : PlainCall → Option MacroCallId → Result CallAnswer UnresolvedMacro
unfound_answer query (Some call) = Ok (record { value = Some call; err = None; inner = [] })
unfound_answer query None = Err (record { path = query.path })

-- the answer of a call, by what is found for its path
abbrev pub call_answer : (Position → MacroDefId → Option MacroCallId) → (Position → Option Name → Option MacroCallId) → PlainCall → List (Option MacroDefId) → Result CallAnswer UnresolvedMacro
call_answer number implied query (Some found ∷ _) = Ok (record { value = number query.position found; err = None; inner = [] })
call_answer number implied query (None ∷ _) = unfound_answer query (implied query.position (as_ident query.path))
call_answer number implied query [] = unfound_answer query (implied query.position (as_ident query.path))

-- the source file behind a file
abbrev pub source_file : (MacroCallId → Option FileId) → HirFileId → FileId
source_file origins (File file) = file
source_file origins (Macro call) = unwrap_or (origins call) (record { 0 = 0 })

-- all answers
abbrev pub answers_of : Oracle → asked.Oracle
answers_of o =
    record (database.answers_of o.db) {
      original_file = source_file (get call_eq o.origins);
      macro_call = call_answer (number_of o) (implied_at o);
    }

-- what finished maps show beside what paths read
abbrev pub states_of : Oracle → MapStates
states_of o = database.states_of o.db
