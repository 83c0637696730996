use Rattle.std.specs.Prelude.{ℕ, List}
use Rattle.rust_lexer.specs.declared.token.Token.{Token}
use Rattle.rust_trees.specs.declared.trees.Trees.{Trees}

-- The tokens of trees, in their order.
abbrev pub tokens_of : Trees → List Token
tokens_of trees = trees.tokens.items

-- For each of them the place of its partner.
abbrev pub partners_of : Trees → List ℕ
partners_of trees = trees.partners.items
