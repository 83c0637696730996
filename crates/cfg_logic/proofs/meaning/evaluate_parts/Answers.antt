-- Each part that is gone over takes the reading on.
use Rattle.std.proofs.Common.{refl, arith}
use Rattle.cfg_logic.proofs.ReadingLemmas.{goes_on}
use Rattle.cfg_logic.specs.Predicates.{start}
use Rattle.cfg_logic.proofs.meaning.evaluate_parts.Goals as goal

pub loop-at-init : goal.loop-at-init
loop-at-init c = record { state = start; mirrors = c.new-reading.ensures c.args.options.now; reads = refl }

pub loop-at-preserved : goal.loop-at-preserved
loop-at-preserved c =
    goes_on _ _ c.loop-at.at c.index-parts-at.result c.in_ok-fault.field-0 c.in_default.field-0 _ _ (omega arith) c.index-parts-at.is c.loop-at.invariant (λ s m. c.in_ok-fault.ensures s m) c.in_default.is
