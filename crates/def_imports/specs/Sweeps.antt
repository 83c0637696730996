-- A first pass over all imports that are unresolved, and what comes after it.
use Rattle.std.specs.Prelude.{◌≡◌, ℕ, zero, suc, ◌+◌, ◌-◌, ◌<◌, ◌≤◌, ◌^◌, true, false, List, [], ◌∷◌, Option, None, Some}
use Rattle.def_imports.specs.declared.turns.Turn.{Turn}
use Rattle.def_imports.specs.declared.coming.Sweep.{Sweep}

-- the place of the next import in a pass over so many, of which some come after it
abbrev pub place_of : ℕ → ℕ → ℕ
place_of len rest = len - rest - 1

-- the turn of an import that is unresolved in the first pass
abbrev pub first_turn : ℕ → Turn
first_turn index = record { pass = 1; is_indeterminate = false; index = index }

-- the turns of the last of so many imports in the first pass
abbrev pub swept_turns : ℕ → ℕ → List Turn
swept_turns len zero = []
swept_turns len (suc rest) = first_turn (place_of len rest) ∷ swept_turns len rest

-- a turn is the next one of a first pass, or one of those after it
abbrev pub IsLeft : ℕ → ℕ → Turn → Type 0
IsLeft len rest turn = (turn.pass ≡ 1) × (turn.is_indeterminate ≡ false) × (place_of len rest ≤ turn.index) × (turn.index < len)

-- the turns of a first pass that are left, if one is under way
abbrev pub swept : Option Sweep → List Turn
swept None = []
swept (Some sweep) = swept_turns sweep.len (suc sweep.rest)

-- a first pass that is under way goes on right after the turn that came last, or begins
pub record GoesOnAfter (last : Turn) (sweep : Sweep) : Type 0 where
  pub left : sweep.rest < sweep.len
  pub begins : last.is_indeterminate ≡ true → (last.pass ≡ 0) × (last.index + 1 ≡ 2 ^ 64) × (place_of sweep.len sweep.rest ≡ 0)
  pub goes_on : last.is_indeterminate ≡ false → (last.pass ≡ 1) × (last.index + 1 ≡ place_of sweep.len sweep.rest)
