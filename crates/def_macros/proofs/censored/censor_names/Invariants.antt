use Rattle.std.proofs.Common.{◌≡◌, ◌-◌, length}
use Rattle.def_sources.specs.Tables.{bound_by}
use Rattle.def_macros.proofs.CensoredLemmas.{names_from}
use Rattle.def_macros.proofs.censored.censor_names.Given as goal

-- once those to come are censored, all of the table that came in are
abbrev pub invariant-names : goal.invariant-names
invariant-names l = names_from l.at l.index (bound_by l.table) ≡ names_from l.at 0 (bound_by l.initial.table)

abbrev pub decreases-names : goal.decreases-names
decreases-names l = length ((bound_by l.table).names l.at) - l.index
