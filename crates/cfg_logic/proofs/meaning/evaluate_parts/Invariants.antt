-- What has been read and the parts that are left are the whole.
use Rattle.std.proofs.Common.{drop}
use Rattle.cfg_logic.specs.Mirrors.{HasRead}
use Rattle.cfg_logic.proofs.meaning.evaluate_parts.Given as goal

abbrev pub invariant-loop-at : goal.invariant-loop-at
invariant-loop-at l = HasRead l.options l.parts (drop l.at l.parts) l.reading
