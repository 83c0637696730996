use Rattle.std.proofs.lemmas.Str.{IsCharBoundary-start}
use Rattle.rust_lexer.proofs.scan.mark_end.Goals as goal

pub returns-in_default : goal.returns-in_default
returns-in_default c = IsCharBoundary-start c.args.text.now c.requires

pub returns-in_default-2 : goal.returns-in_default-2
returns-in_default-2 c = IsCharBoundary-start c.args.text.now c.requires
