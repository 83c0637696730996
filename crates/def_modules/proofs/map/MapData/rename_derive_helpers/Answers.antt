use Rattle.std.proofs.Common.{ap, sym}
use Rattle.def_modules.specs.EqualityLaws.{derived_position_eq, positions_same}
use Rattle.def_modules.specs.Maps.{map_state, renamed_in}
use Rattle.def_modules.proofs.HelpersLemmas.{helpers-changed}
use Rattle.def_modules.proofs.ScopesLemmas.{some_there}
use Rattle.def_modules.proofs.map.MapData.rename_derive_helpers.Goals as goal

pub returns-in-Some : goal.returns-in-Some
returns-in-Some c =
    let there = sym c.in-Some.ensures.value in
    let after = ((c.get_mut.follows.holds c.rename_within.new.helpers).3 (some_there there)).0 in
    let d = c.args.self.now in
    let e = helpers-changed derived_position_eq positions_same d.derive_helpers (c.get_mut.follows.lender c.rename_within.new.helpers) c.args.position (renamed_in c.args.range c.args.id) c.in-Some.helpers.now c.rename_within.new.helpers there c.rename_within.ensures after in
    ap (λ f. record (map_state d) { helpers = f }) e
