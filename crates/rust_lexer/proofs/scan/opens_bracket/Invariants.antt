use Rattle.std.proofs.Common.{length, ◌-◌}
use Rattle.rust_lexer.proofs.scan.opens_bracket.Given as goal

abbrev pub decreases-loop-at : goal.decreases-loop-at
decreases-loop-at l = length l.text - l.at
