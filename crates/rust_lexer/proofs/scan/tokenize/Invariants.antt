use Rattle.std.proofs.Common.{length, ◌-◌}
use Rattle.std.specs.Str.{IsCharBoundary}
use Rattle.rust_lexer.specs.Tokens.{AreTokensUpTo}
use Rattle.rust_lexer.proofs.scan.tokenize.Given as goal

abbrev pub invariant-loop-at : goal.invariant-loop-at
invariant-loop-at l = record {
  between : IsCharBoundary l.text l.at;
  tokens : AreTokensUpTo l.text l.tokens.items l.at;
}

abbrev pub decreases-loop-at : goal.decreases-loop-at
decreases-loop-at l = length l.text - l.at
