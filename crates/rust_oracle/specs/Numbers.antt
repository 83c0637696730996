-- The numbers of what calls of macros give.
use Rattle.std.specs.Prelude.{ℕ, ◌+◌, ◌*◌, ◌^◌, cond, Option, Some, None}
use Rattle.std.specs.Prelude.{nat_lt}
use Rattle.tree_ids.specs.declared.ids.MacroCallId.{MacroCallId}
use Rattle.def_ids.specs.declared.ids.MacroId.{MacroId}
use Rattle.def_ids.specs.declared.ids.MacroId.TheVariants.{MacroRules, Macro2, ProcMacro}

-- the lower half of a call's number, where nothing was written down of the macro that is found
abbrev pub code_of : MacroId → Option ℕ
code_of (MacroRules rules) = cond (nat_lt rules.0 (2 ^ 30)) (Some (2 ^ 31 + 2 * rules.0)) None
code_of (Macro2 two) = cond (nat_lt two.0 (2 ^ 30)) (Some (2 ^ 31 + 2 * two.0 + 1)) None
code_of (ProcMacro id) = None

-- the number of a call, by those of its place and its macro
abbrev pub call_number : ℕ → ℕ → MacroCallId
call_number place code = record { 0 = place * 2 ^ 32 + code }
