use Rattle.std.proofs.Common.{rules}
use Rattle.def_parts.proofs.DirectoriesLemmas.{pieces_some}
use Rattle.def_parts.proofs.mod_resolution.ModDir.dir_of_file.Goals as goal

pub child-requires-2 : goal.child-requires-2
child-requires-2 c = λ _ none. pieces_some c.args.name.now c.in_ok-dir_path.dir_path c.in_ok-dir_path.ensures none

pub returns : goal.returns
returns c = search rules
