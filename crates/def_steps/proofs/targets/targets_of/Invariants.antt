use Rattle.std.proofs.Common.{◌≡◌, ◌-◌, length, map, take}
use Rattle.def_rules.specs.Report.{shown_targets}
use Rattle.def_steps.proofs.targets.targets_of.Given as goal

-- those that were passed are listed
abbrev pub invariant-targets : goal.invariant-targets
invariant-targets l = map shown_targets l.list.items ≡ take l.number l.targets.entries

abbrev pub decreases-targets : goal.decreases-targets
decreases-targets l = length l.targets.entries - l.number
