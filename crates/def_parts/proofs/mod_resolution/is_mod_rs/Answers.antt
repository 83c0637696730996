use Rattle.def_parts.proofs.DirectoriesLemmas.{mod_rs_by}
use Rattle.def_parts.proofs.mod_resolution.is_mod_rs.Goals as goal

pub returns : goal.returns
returns c = mod_rs_by c.ends_with.result c.args.path.now c.ends_with.ensures.cases
