use Rattle.std.specs.Prelude.{ℕ, Bool, true, false, not, ◌&&◌, ◌||◌, List, [], ◌∷◌, Option, Some, None, if◌then◌else◌, option_and_then, string_bytes}
use Rattle.cfg_logic.specs.Options.{has_flag, has_value}
use Rattle.cfg_logic.specs.declared.options.CfgOptions.{CfgOptions}
use Rattle.cfg_logic.specs.declared.part.CfgPart.{CfgPart}
use Rattle.cfg_logic.specs.declared.part.CfgPart.TheVariants.{Open, Close, Comma, Truth, Word, Pair}
use Rattle.cfg_logic.specs.declared.part.Group.{Group}
use Rattle.cfg_logic.specs.declared.part.Group.TheVariants.{All, Any, Not}

-- A predicate of `cfg`: `true` or `false`, a flag, a key with a value, and groups of predicates.
mutual
  pub data Predicate : Type 0 where
    truth : Bool → Predicate
    word : List ℕ → Predicate
    pair : List ℕ → List ℕ → Predicate
    all_of : Predicates → Predicate
    any_of : Predicates → Predicate
    negation : Predicate → Predicate

  -- The predicates of a group, the last one outermost.
  pub data Predicates : Type 0 where
    nothing : Predicates
    more : Predicates → Predicate → Predicates

-- What a predicate means where some options are set.
abbrev mutual
  pub means : CfgOptions → Predicate → Bool
  means options (truth b) = b
  means options (word name) = has_flag options name
  means options (pair key value) = has_value options key value
  means options (all_of ps) = all_hold options ps
  means options (any_of ps) = any_holds options ps
  means options (negation p) = not (means options p)

  pub all_hold : CfgOptions → Predicates → Bool
  all_hold options nothing = true
  all_hold options (more ps p) = all_hold options ps && means options p

  pub any_holds : CfgOptions → Predicates → Bool
  any_holds options nothing = false
  any_holds options (more ps p) = any_holds options ps || means options p

-- A group that is open, and the predicates that it has so far.
pub record Opened : Type 0 where
  pub group : Group
  pub predicates : Predicates

-- What has been read of a predicate: the groups that are open, the innermost one by itself, and
-- whether a predicate may come, since the group has just opened or a comma stands there.
pub record State : Type 0 where
  pub outer : List Opened
  pub inner : Opened
  pub is_ready : Bool

-- A group that has one more predicate.
abbrev pub with_predicate : Opened → Predicate → Opened
with_predicate o p = record { group = o.group; predicates = more o.predicates p }

-- The predicate that a group is; `not` has exactly one.
abbrev pub closed : Group → Predicates → Option Predicate
closed All ps = Some (all_of ps)
closed Any ps = Some (any_of ps)
closed Not nothing = None
closed Not (more nothing p) = Some (negation p)
closed Not (more (more ps q) p) = None

-- A predicate that is no group is read.
abbrev pub take_one : State → Predicate → Option State
take_one s p = if s.is_ready then Some (record { outer = s.outer; inner = with_predicate s.inner p; is_ready = false }) else None

-- A group opens.
abbrev pub open_group : State → Group → Option State
open_group s g = if s.is_ready then Some (record { outer = s.inner ∷ s.outer; inner = record { group = g; predicates = nothing }; is_ready = true }) else None

-- A group closes, and is a predicate of the one around it.
abbrev pub close_into : List Opened → Option Predicate → Option State
close_into [] p = None
close_into (o ∷ os) None = None
close_into (o ∷ os) (Some p) = Some (record { outer = os; inner = with_predicate o p; is_ready = false })

abbrev pub close_group : State → Option State
close_group s = close_into s.outer (closed s.inner.group s.inner.predicates)

-- A comma stands behind a predicate.
abbrev pub pass_comma : State → Option State
pass_comma s = if s.is_ready then None else Some (record { outer = s.outer; inner = s.inner; is_ready = true })

-- A part is read.
abbrev pub step : State → CfgPart → Option State
step s (Open g) = open_group s g
step s Close = close_group s
step s Comma = pass_comma s
step s (Truth b) = take_one s (truth b)
step s (Word name) = take_one s (word (string_bytes name))
step s (Pair key value) = take_one s (pair (string_bytes key) (string_bytes value))

-- What was read is one predicate, and no group is open.
abbrev pub single : List Opened → Predicates → Option Predicate
single [] nothing = None
single [] (more nothing p) = Some p
single [] (more (more ps q) p) = None
single (o ∷ os) ps = None

abbrev pub whole : State → Option Predicate
whole s = single s.outer s.inner.predicates

-- The predicate that is read once parts are read from a state on.
abbrev pub read_from : State → List CfgPart → Option Predicate
read_from s [] = whole s
read_from s (x ∷ xs) = option_and_then (λ t. read_from t xs) (step s x)

-- Nothing has been read. The whole is a group of one predicate, as `not(..)` is.
abbrev pub start : State
start = record { outer = []; inner = record { group = Not; predicates = nothing }; is_ready = true }

-- The predicate that parts are, if they are one.
abbrev pub read : List CfgPart → Option Predicate
read parts = read_from start parts
