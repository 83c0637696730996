use Rattle.std.proofs.Common.{ap}
use Rattle.def_modules.specs.Maps.{map_state}
use Rattle.def_modules.proofs.CrateLemmas.{helpers-added}
use Rattle.def_modules.specs.EqualityLaws.{derived_position_eq, positions_same}
use Rattle.def_modules.proofs.map.MapData.add_derive_helper.Goals as goal

pub returns : goal.returns
returns c =
    let e = helpers-added derived_position_eq positions_same c.args.self.now.derive_helpers c.push_under.new.lists c.args.position c.args.helper c.in_ok-push_under.ensures in
    ap (λ f. record (map_state c.args.self.now) { helpers = f }) e
