use Rattle.std.proofs.Common.{◌≡◌, ℕ, ◌<◌, List, [], ◌∷◌, ◌++◌, length, get_or, inl, inr}
use Rattle.std.proofs.lemmas.List.Elements.{All-push, All-nil}
use Rattle.rust_lexer.specs.declared.token.Token.{Token}
use Rattle.rust_lexer.specs.declared.token.SourceId.{SourceId}
use Rattle.macro_by_example.specs.Written.{IsOfTemplate, IsOfCall, IsParenthesis, IsWritten, AreWritten}

-- A token of a template.
pub of_template : (templates call : List Token) (source : SourceId) (i : ℕ) (u t : Token) → i < length templates → get_or templates i u ≡ u → IsOfTemplate source u t → IsWritten templates call source t
of_template templates call source i u t inside at same = inl (i, u, inside, at, same)

-- A token of the call.
pub of_call : (templates call : List Token) (source : SourceId) (i : ℕ) (u t : Token) → i < length call → get_or call i u ≡ u → IsOfCall u t → IsWritten templates call source t
of_call templates call source i u t inside at same = inr (inl (i, u, inside, at, same))

-- A parenthesis.
pub of_parenthesis : (templates call : List Token) (source : SourceId) (t : Token) → IsParenthesis t → IsWritten templates call source t
of_parenthesis templates call source t is = inr (inr is)

-- No tokens.
pub nothing : (templates call : List Token) (source : SourceId) → AreWritten templates call source []
nothing templates call source = record { each = All-nil (IsWritten templates call source) }

-- One more token.
pub one_more : (templates call : List Token) (source : SourceId) (tokens : List Token) (t : Token) → AreWritten templates call source tokens → IsWritten templates call source t → AreWritten templates call source (tokens ++ t ∷ [])
one_more templates call source tokens t before last = record { each = All-push (IsWritten templates call source) tokens t before.each last }
