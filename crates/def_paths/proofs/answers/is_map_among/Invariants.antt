use Rattle.std.proofs.Common.{◌≡◌, drop}
use Rattle.std.specs.List.{list_any}
use Rattle.def_ids.specs.Ids.{is_same_map}
use Rattle.def_paths.proofs.answers.is_map_among.Given as goal

-- none of those that were passed is of the map
abbrev pub invariant-loop-other : goal.invariant-loop-other
invariant-loop-other l = list_any (λ b. is_same_map b.map l.place.map) (drop l.other-index l.before) ≡ list_any (λ b. is_same_map b.map l.place.map) l.before
