use Rattle.std.proofs.Common.{◌≡◌, drop}
use Rattle.def_modules.specs.Maps.{map_state}
use Rattle.def_rules.specs.Calls.{recording_inner}
use Rattle.def_calls.proofs.directives.record_inner.Given as goal

abbrev pub invariant-calls : goal.invariant-calls
invariant-calls l = recording_inner (drop l.call-index l.call-items) (map_state l.def_map) ≡ recording_inner l.call-items (map_state l.initial.def_map)
