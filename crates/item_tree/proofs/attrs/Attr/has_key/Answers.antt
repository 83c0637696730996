use Rattle.std.proofs.Common.{rules}
use Rattle.item_tree.proofs.attrs.Attr.has_key.Goals as goal

pub returns-in-Some : goal.returns-in-Some
returns-in-Some c = search rules
