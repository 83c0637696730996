use Rattle.macro_by_example.specs.Written.{AreWritten}
use Rattle.macro_by_example.proofs.origins.tokens_of.Given as goal

abbrev pub invariant-loop-origin : goal.invariant-loop-origin
invariant-loop-origin l = record {
  written : AreWritten l.templates l.call l.source l.tokens.items;
}
