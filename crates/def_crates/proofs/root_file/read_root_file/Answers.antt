use Rattle.std.proofs.Common.{rules}
use Rattle.def_crates.proofs.root_file.read_root_file.Goals as goal

pub returns-clause-names : goal.returns-clause-names
returns-clause-names g c = search rules
