use Rattle.std.proofs.Common.{ℕ, ◌≤◌, List, [], ◌∷◌, ◌++◌, arith}
use Rattle.std.proofs.lemmas.List.Elements.{All-push, All-weaker, All-nil}
use Rattle.std.proofs.lemmas.List.Quantifiers.{all_pairs_push}
use Rattle.rust_lexer.specs.Tokens.{IsSpan, AreTokensUpTo}
use Rattle.rust_lexer.specs.declared.token.Token.{Token}

-- No tokens at all.
pub no_tokens : (text : List ℕ) (at : ℕ) → AreTokensUpTo text [] at
no_tokens text at = record {
  tokens_of = record {
    spans = All-nil (λ (t : Token). IsSpan text t.start t.end);
    rising = λ i j d below inside. omega arith;
  };
  ended = All-nil (λ (t : Token). t.end ≤ at);
}

-- What has ended at an offset has ended at a later one.
pub ended_later : (text : List ℕ) (tokens : List Token) (at later : ℕ) → at ≤ later → AreTokensUpTo text tokens at → AreTokensUpTo text tokens later
ended_later text tokens at later below before = record {
  tokens_of = before.tokens_of;
  ended = All-weaker (λ (t : Token). t.end ≤ at) (λ (t : Token). t.end ≤ later) (λ t ends. omega arith) tokens before.ended;
}

-- One more token.
pub one_more : (text : List ℕ) (tokens : List Token) (t : Token) → AreTokensUpTo text tokens t.start → IsSpan text t.start t.end → AreTokensUpTo text (tokens ++ t ∷ []) t.end
one_more text tokens t before span = record {
  tokens_of = record {
    spans = All-push (λ (u : Token). IsSpan text u.start u.end) tokens t before.tokens_of.spans span;
    rising = all_pairs_push (λ (s : Token) (u : Token). s.end ≤ u.start) tokens t before.tokens_of.rising before.ended;
  };
  ended = All-push (λ (u : Token). u.end ≤ t.end) tokens t
      (All-weaker (λ (u : Token). u.end ≤ t.start) (λ (u : Token). u.end ≤ t.end) (λ u ends. let rises : t.start ≤ t.end = span.ordered in omega arith) tokens before.ended)
      (omega arith);
}
