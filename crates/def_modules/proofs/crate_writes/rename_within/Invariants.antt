use Rattle.std.proofs.Common.{◌≡◌, ◌≤◌, ◌+◌, ◌-◌, map}
use Rattle.def_modules.specs.Maps.{helper_state, renamed_from}
use Rattle.def_modules.proofs.crate_writes.rename_within.Given as goal

abbrev pub invariant-places : goal.invariant-places
invariant-places l =
    let start = l.fn.range.start in
    (start ≤ l.place) × (l.place ≤ start + (l.fn.range.end - start)) × (map helper_state l.items.items ≡ renamed_from start (l.place - start) l.id (map helper_state l.fn.helpers))
