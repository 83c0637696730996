-- What is read of the parts is the predicate that they are written for.
use Rattle.cfg_logic.proofs.WrittenLemmas.{means_what_is_written_if}
use Rattle.cfg_logic.proofs.meaning.evaluate.Goals as goal

pub returns-clause-written : goal.returns-clause-written
returns-clause-written c = means_what_is_written_if _ _ c.evaluate_parts.result c.evaluate_parts.ensures
