-- The turns of imports that woke.
use Rattle.std.specs.Prelude.{◌≡◌, ℕ, ◌+◌, ◌<◌, ◌^◌, Bool, true, false, List, ◌∷◌, ◌++◌, length, nat_lt}
use Rattle.std.specs.BTreeSet.{insert_key}
use Rattle.std.specs.declared.cmp.Ordering.{Ordering}
use Rattle.std.specs.Ordering.{bool_cmp, nat_cmp, ordering_then}
use Rattle.def_steps.specs.declared.import_lists.ImportAt.{ImportAt}
use Rattle.def_steps.specs.declared.import_lists.ImportList.{ImportList}
use Rattle.def_steps.specs.declared.import_lists.ImportList.TheVariants.{Unresolved, Indeterminate}
use Rattle.def_imports.specs.declared.turns.Turn.{Turn}
use Rattle.def_imports.specs.declared.coming.Turns.{Turns}
use Rattle.def_imports.specs.Sweeps.{swept}

-- those that are to come, in their order
abbrev pub coming_turns : Turns → List Turn
coming_turns turns = swept turns.sweep ++ turns.coming.keys

-- how many are to come
abbrev pub turns_to_come : Turns → ℕ
turns_to_come turns = length (coming_turns turns)

-- whether a list is that of the imports that are indeterminate
abbrev pub is_indeterminate : ImportList → Bool
is_indeterminate Unresolved = false
is_indeterminate Indeterminate = true

-- whether a pass comes to a place after it came to another: those that are unresolved have their turns first, and of two in one list the one with the lower place
abbrev pub is_behind : Bool → ℕ → Bool → ℕ → Bool
is_behind false first true later = true
is_behind true first false later = false
is_behind false first false later = nat_lt first later
is_behind true first true later = nat_lt first later

-- the turn of an import that wakes after the last turn: in the same pass if that has still to come to it, and else in the next; passes are counted up to 2^64 - 1
pub record WakesAfter (last : Turn) (import : ImportAt) (turn : Turn) : Type 0 where
  pub list : turn.is_indeterminate ≡ is_indeterminate import.list
  pub place : turn.index ≡ import.index
  pub now : is_behind last.is_indeterminate last.index (is_indeterminate import.list) import.index ≡ true → turn.pass ≡ last.pass
  pub next : is_behind last.is_indeterminate last.index (is_indeterminate import.list) import.index ≡ false → last.pass + 1 < 2 ^ 64 → turn.pass ≡ last.pass + 1

-- one turn was the first of those that were to come, and is the last that came now: that of this import
pub record IsNext (old new : Turns) (import : ImportAt) : Type 0 where
  pub first : coming_turns old ≡ new.last ∷ coming_turns new
  pub list : is_indeterminate import.list ≡ new.last.is_indeterminate
  pub place : import.index ≡ new.last.index

-- the order of turns: pass by pass, in a pass those that are unresolved first, and of two in one list the one with the lower place
abbrev pub turn_order : Turn → Turn → Ordering
turn_order first second = ordering_then (nat_cmp first.pass second.pass) (ordering_then (bool_cmp first.is_indeterminate second.is_indeterminate) (nat_cmp first.index second.index))

-- an import woke: its turn stands among those that are to come, in their order, and all else stays
pub record Wakes (old new : Turns) (import : ImportAt) : Type 0 where
  pub turn : Turn
  pub wakes : WakesAfter old.last import turn
  pub comes : coming_turns new ≡ insert_key turn_order (coming_turns old) turn
  pub last : new.last ≡ old.last
