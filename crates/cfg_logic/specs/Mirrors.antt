use Rattle.std.specs.Prelude.{◌≡◌, Bool, List, [], ◌∷◌, ◌++◌, Option, Some, None, Result, Ok, Err, IsOk, IsErr}
use Rattle.cfg_logic.specs.Predicates.{Predicates, nothing, more, all_hold, any_holds, Opened, State, read, read_from}
use Rattle.cfg_logic.specs.declared.fault.CfgFault.{CfgFault}
use Rattle.cfg_logic.specs.declared.meaning.Frame.{Frame}
use Rattle.cfg_logic.specs.declared.meaning.Number.{Number}
use Rattle.cfg_logic.specs.declared.meaning.Number.TheVariants.{Zero, One, Several}
use Rattle.cfg_logic.specs.declared.meaning.Reading.{Reading}
use Rattle.cfg_logic.specs.declared.options.CfgOptions.{CfgOptions}
use Rattle.cfg_logic.specs.declared.part.CfgPart.{CfgPart}
use Rattle.cfg_logic.specs.declared.part.Group.{Group}
use Rattle.cfg_logic.specs.declared.part.Group.TheVariants.{All, Any, Not}

-- How many predicates there are, as far as it matters.
abbrev pub number_of : Predicates → Number
number_of nothing = Zero
number_of (more nothing p) = One
number_of (more (more ps q) p) = Several

-- What a group of these predicates says of them so far.
abbrev pub holds_so_far : CfgOptions → Group → Predicates → Bool
holds_so_far options All ps = all_hold options ps
holds_so_far options Any ps = any_holds options ps
holds_so_far options Not ps = any_holds options ps

-- An open group as the program has it.
abbrev pub frame_of : CfgOptions → Opened → Frame
frame_of options o = record { group = o.group; number = number_of o.predicates; holds = holds_so_far options o.group o.predicates }

-- Open groups, the innermost one last.
abbrev pub frames_of : CfgOptions → List Opened → List Frame
frames_of options [] = []
frames_of options (o ∷ os) = frames_of options os ++ frame_of options o ∷ []

-- The program has read what was read.
pub record Mirrors (options : CfgOptions) (s : State) (r : Reading) : Type 0 where
  pub outer : r.outer.items ≡ frames_of options s.outer
  pub inner : r.inner ≡ frame_of options s.inner
  pub ready : r.is_ready ≡ s.is_ready

-- The program goes on to a state, or stops where there is none.
abbrev pub Follows : CfgOptions → Option State → Result Unit CfgFault → Reading → Type 0
Follows options None result r = IsErr result
Follows options (Some s) result r = IsOk result × Mirrors options s r

-- What the program answers: whether the predicate holds, if it is one.
abbrev pub answer : {E : Type 0} → Result Bool E → Option Bool
answer (Ok holds) = Some holds
answer (Err e) = None

-- The program has read some parts, and what it has read and the rest are the whole.
pub record HasRead (options : CfgOptions) (parts rest : List CfgPart) (r : Reading) : Type 0 where
  pub state : State
  pub mirrors : Mirrors options state r
  pub reads : read_from state rest ≡ read parts
