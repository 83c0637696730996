use Rattle.std.proofs.Common.{◌≡◌, drop}
use Rattle.def_modules.specs.Maps.{map_state}
use Rattle.def_rules.specs.Calls.{invoking}
use Rattle.def_calls.proofs.directives.record_calls.Given as goal

abbrev pub invariant-calls : goal.invariant-calls
invariant-calls l = invoking l.«module» (drop l.call-index l.calls) (map_state l.def_map) ≡ invoking l.«module» l.calls (map_state l.initial.def_map)
