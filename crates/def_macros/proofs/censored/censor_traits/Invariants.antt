use Rattle.std.proofs.Common.{◌≡◌, ◌-◌, length}
use Rattle.def_sources.specs.Tables.{bound_by}
use Rattle.def_macros.specs.Censored.{ListsOnce}
use Rattle.def_macros.proofs.CensoredLemmas.{traits_from}
use Rattle.def_macros.proofs.censored.censor_traits.Given as goal

-- once those to come are censored, all of the table that came in are; and each stands once
abbrev pub invariant-traits : goal.invariant-traits
invariant-traits l = (traits_from l.at l.index (bound_by l.table) ≡ traits_from l.at 0 (bound_by l.initial.table)) × ListsOnce (bound_by l.table) l.at

abbrev pub decreases-traits : goal.decreases-traits
decreases-traits l = length ((bound_by l.table).unnamed l.at) - l.index
