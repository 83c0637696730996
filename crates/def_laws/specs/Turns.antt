-- The turns of imports: more than how often an import may still be recorded.
use Rattle.std.specs.Prelude.{◌<◌, ℕ, ◌+◌, cond, [], sum_by}
use Rattle.def_oracle.specs.Oracle.{Oracle}
use Rattle.def_rules.specs.State.{State, ImportDirective, NsSet}
use Rattle.def_laws.specs.Runs.{Leads}

-- how many namespaces a set lacks
abbrev pub missing_from : NsSet → ℕ
missing_from set = cond set.types 0 1 + (cond set.values 0 1 + cond set.macros 0 1)

-- more than how often an import may still be recorded: once for each namespace that it lacks, and once more
abbrev pub turns_of : ImportDirective → ℕ
turns_of directive = 1 + missing_from directive.recorded

-- more than how often the imports of a state may still be recorded
abbrev pub turns_left : State → ℕ
turns_left s = sum_by turns_of s.imports

-- an import was recorded
pub record Moves (oracle : Oracle) (s t : State) : Type 0 where
  pub leads : Leads oracle [] s [] t
  pub fewer : turns_left t < turns_left s
