use Rattle.std.specs.Prelude.{List}
use Rattle.rust_lexer.specs.declared.token.Token.{Token}
use Rattle.macro_by_example.specs.declared.rules.Rules.{Rules}

-- The tokens of a macro's templates.
abbrev pub templates_of : Rules → List Token
templates_of rules = rules.tokens.items
