-- Nothing has been read: no group is open but the whole.
use Rattle.std.proofs.Common.{refl}
use Rattle.cfg_logic.proofs.meaning.Reading.new.Goals as goal

pub returns : goal.returns
returns c o = record { outer = c.new.ensures.items; inner = c.opened.ensures o; ready = refl }
