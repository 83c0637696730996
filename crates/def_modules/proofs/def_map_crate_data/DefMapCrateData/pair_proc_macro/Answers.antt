use Rattle.std.proofs.Common.{rules}
use Rattle.def_modules.proofs.def_map_crate_data.DefMapCrateData.pair_proc_macro.Goals as goal

pub returns : goal.returns
returns c = search rules
