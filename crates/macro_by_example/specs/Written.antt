use Rattle.std.specs.Prelude.{◌≡◌, ◌⊎◌, List, All, Any}
use Rattle.rust_lexer.specs.declared.token.Token.{Token}
use Rattle.rust_lexer.specs.declared.token.SourceId.{SourceId}
use Rattle.rust_lexer.specs.declared.token.TokenKind.{TokenKind}
use Rattle.rust_lexer.specs.declared.token.TokenKind.TheVariants.{OpenParen, CloseParen, DollarCrate}

-- The source of a template's token, by its kind: `$crate` has that of the macro.
abbrev pub source_by : TokenKind → SourceId → SourceId → SourceId
source_by DollarCrate of_macro own = of_macro
source_by _ of_macro own = own

-- The token t is the token u of a template, and `$crate` is that of the macro's source.
pub record IsOfTemplate (of_macro : SourceId) (u t : Token) : Type 0 where
  pub kind : t.kind ≡ u.kind
  pub joint : t.joint ≡ u.joint
  pub source : t.source ≡ source_by u.kind of_macro u.source
  pub start : t.start ≡ u.start
  pub end : t.end ≡ u.end

-- The token t is the token u of a call, which may have been joint to what follows it there.
pub record IsOfCall (u t : Token) : Type 0 where
  pub kind : t.kind ≡ u.kind
  pub source : t.source ≡ u.source
  pub start : t.start ≡ u.start
  pub end : t.end ≡ u.end

-- The token t is a parenthesis around a fragment, which no text has.
pub record IsParenthesis (t : Token) : Type 0 where
  pub kind : (t.kind ≡ OpenParen) ⊎ (t.kind ≡ CloseParen)
  pub empty : t.start ≡ t.end

-- What a token of an expansion is: a token of the templates, a token of the call, or a parenthesis around what is one tree.
abbrev pub IsWritten : List Token → List Token → SourceId → Token → Type 0
IsWritten templates call source t = Any (λ u. IsOfTemplate source u t) templates ⊎ Any (λ u. IsOfCall u t) call ⊎ IsParenthesis t

-- Each token of an expansion is one of these.
pub record AreWritten (templates call : List Token) (source : SourceId) (tokens : List Token) : Type 0 where
  pub each : All (IsWritten templates call source) tokens
