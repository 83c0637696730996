use Rattle.std.proofs.Common.{rules}
use Rattle.item_tree.proofs.mod_path.ModPath.as_ident.Goals as goal

pub returns-in-Plain-len1 : goal.returns-in-Plain-len1
returns-in-Plain-len1 c = search rules
