use Rattle.std.proofs.Common.{ap}
use Rattle.def_modules.specs.Maps.{crate_state}
use Rattle.def_modules.proofs.CrateLemmas.{exported-set}
use Rattle.def_modules.specs.EqualityLaws.{macros_same}
use Rattle.def_modules.proofs.def_map_crate_data.DefMapCrateData.export_derive.Goals as goal

pub returns : goal.returns
returns c =
    let e = exported-set _ macros_same c.args.self.now.exported_derives c.insert.new.self c.args.id c.args.helpers c.in_ok-insert.ensures.updates.0 in
    ap (λ f. record (crate_state c.args.self.now) { exported_helpers = f }) e
