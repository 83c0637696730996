use Rattle.std.proofs.Common.{ap, Some}
use Rattle.def_modules.specs.Equality.{position_eq}
use Rattle.def_modules.specs.Maps.{map_state}
use Rattle.def_modules.proofs.CrateLemmas.{rekeyed}
use Rattle.def_modules.specs.EqualityLaws.{derived_position_eq, positions_same}
use Rattle.def_modules.proofs.map.MapData.set_macro_at.Goals as goal

pub returns : goal.returns
returns c =
    let e = rekeyed derived_position_eq position_eq positions_same c.args.self.now.macro_by_position c.insert.new.self c.args.position (Some c.args.id) c.in_ok-insert.ensures.updates.0 in
    ap (λ f. record (map_state c.args.self.now) { macro_at = f }) e
