use Rattle.std.proofs.Common.{rules}
use Rattle.def_items.proofs.visibility.meant_or_public.Goals as goal

pub returns-in-None : goal.returns-in-None
returns-in-None c = search rules
