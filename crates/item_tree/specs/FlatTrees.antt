-- Token trees as a flat list, in which the beginning of each delimited list says how long the list is.
use Rattle.std.specs.Prelude.{◌≡◌, ℕ, suc, List, [], ◌∷◌, ◌++◌, length, map}
use Rattle.item_tree.specs.declared.tt.Token.{Token}
use Rattle.item_tree.specs.declared.tt.Token.TheVariants.{Leaf, Open, Close}
use Rattle.item_tree.specs.TokenTrees.{TokenTrees, no_trees, leaf, subtree, Piece, word, opening, closing, trees_read}

-- the flat list of trees
abbrev pub flat : TokenTrees → List Token
flat no_trees = []
flat (leaf l behind) = Leaf l ∷ flat behind
flat (subtree inside behind) = Open (length (flat inside)) ∷ flat inside ++ Close ∷ flat behind

-- a token of the flat list, as a piece of the text
abbrev pub piece_of : Token → Piece
piece_of (Leaf l) = word l
piece_of (Open len) = opening
piece_of Close = closing

-- the trees that a flat list is read as
abbrev pub trees_of : List Token → TokenTrees
trees_of tokens = trees_read (map piece_of tokens)

-- a list is the flat list of trees
abbrev pub IsFlat : List Token → Type 0
IsFlat tokens = flat (trees_of tokens) ≡ tokens

-- A flat list that is being built: trees in the innermost open list, and those around each open one, which are before its beginning.
-- Each beginning holds the number of tokens up to the one around it.
abbrev pub HasOpen : List Token → ℕ → TokenTrees → List TokenTrees → Type 0
HasOpen tokens innermost trees [] = (tokens ≡ flat trees) × (innermost ≡ 0)
HasOpen tokens innermost trees (around ∷ outer) =
    (before : List Token) × (earlier : ℕ) × (tokens ≡ before ++ Open earlier ∷ flat trees) × (innermost ≡ suc (length before))
    × HasOpen before earlier around outer

-- a list is the beginning of a flat list, with the number of tokens up to its innermost open list
abbrev pub IsBegun : List Token → ℕ → Type 0
IsBegun tokens innermost = (trees : TokenTrees) × (outer : List TokenTrees) × HasOpen tokens innermost trees outer
