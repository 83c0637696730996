use Rattle.std.specs.Prelude.{ℕ, ◌≤◌, List, All, AllPairs}
use Rattle.std.specs.Str.{IsCharBoundary}
use Rattle.rust_lexer.specs.declared.token.Token.{Token}

-- A part of the text, which begins and ends between characters.
pub record IsSpan (text : List ℕ) (start end : ℕ) : Type 0 where
  pub ordered : start ≤ end
  pub begins : IsCharBoundary text start
  pub ends : IsCharBoundary text end

-- Each token is a part of the text, and begins where all before it have ended.
pub record AreTokensOf (text : List ℕ) (tokens : List Token) : Type 0 where
  pub spans : All (λ t. IsSpan text t.start t.end) tokens
  pub rising : AllPairs (λ s t. s.end ≤ t.start) tokens

-- The same, and all have ended at an offset.
pub record AreTokensUpTo (text : List ℕ) (tokens : List Token) (at : ℕ) : Type 0 where
  pub tokens_of : AreTokensOf text tokens
  pub ended : All (λ t. t.end ≤ at) tokens
