-- Token trees.
use Rattle.std.specs.Prelude.{◌≡◌, ℕ, zero, suc, Option, None, Some, List, [], ◌∷◌, ◌++◌, option_map, refl}
use Rattle.std.specs.List.{filter_map}
use Rattle.std.specs.Coded.{Coded, code_by, coded_list, coded_option}
use Rattle.std.proofs.Common.{ap, append_assoc, append-nil, sym, ◌∙◌}
use Rattle.tree_ids.specs.declared.name.Name.{Name}
use Rattle.item_tree.specs.declared.tt.Leaf.{Leaf}
use Rattle.item_tree.specs.declared.tt.Leaf.TheVariants.{Ident}
use Rattle.item_tree.specs.contracts.tt.Leaf as the_leaf

-- token trees, one after another: none; a token before others; a delimited list before others
pub data TokenTrees : Type 0 where
  no_trees : TokenTrees
  leaf : Leaf → TokenTrees → TokenTrees
  subtree : TokenTrees → TokenTrees → TokenTrees

-- one of them: a token, or a delimited list
pub data TtElement : Type 0 where
  token : Leaf → TtElement
  group : TokenTrees → TtElement

-- a piece of a text: a token, or a delimiter
pub data Piece : Type 0 where
  word : Leaf → Piece
  opening : Piece
  closing : Piece

-- the trees one by one
abbrev pub elements : TokenTrees → List TtElement
elements no_trees = []
elements (leaf l behind) = token l ∷ elements behind
elements (subtree inside behind) = group inside ∷ elements behind

-- the text of trees
abbrev pub written : TokenTrees → List Piece
written no_trees = []
written (leaf l behind) = word l ∷ written behind
written (subtree inside behind) = opening ∷ written inside ++ closing ∷ written behind

-- how many lists are open behind a text that begins in this many
abbrev pub depth_from : ℕ → List Piece → ℕ
depth_from n [] = n
depth_from n (word l ∷ text) = depth_from n text
depth_from n (opening ∷ text) = depth_from (suc n) text
depth_from zero (closing ∷ text) = depth_from zero text
depth_from (suc n) (closing ∷ text) = depth_from n text

-- how many lists a text leaves open
abbrev pub depth : List Piece → ℕ
depth text = depth_from 0 text

-- the name of a token that is an identifier
abbrev pub leaf_ident : Leaf → Option Name
leaf_ident (Ident name) = Some name
leaf_ident _ = None

-- the name of an element that is an identifier
abbrev pub element_ident : TtElement → Option Name
element_ident (token l) = leaf_ident l
element_ident (group inside) = None

-- the identifiers directly in token trees
abbrev pub idents : TokenTrees → List Name
idents trees = filter_map element_ident (elements trees)

-- the trees in an element that is a delimited list
abbrev pub element_group : TtElement → Option TokenTrees
element_group (token l) = None
element_group (group inside) = Some inside

-- the identifiers directly in a delimited list
abbrev pub subtree_idents : TtElement → Option (List Name)
subtree_idents element = option_map idents (element_group element)

-- ---- how the logic stores them: trees as their text, a piece of it as a token or one of two marks

-- trees, and the trees behind each end of a list that is met
pub record Read : Type 0 where
  pub trees : TokenTrees
  pub behind : List TokenTrees

abbrev pub first_or_none : List TokenTrees → TokenTrees
first_or_none [] = no_trees
first_or_none (trees ∷ rest) = trees

abbrev but_first : List TokenTrees → List TokenTrees
but_first [] = []
but_first (trees ∷ rest) = rest

abbrev with_piece : Piece → Read → Read
with_piece (word l) r = record { trees = leaf l r.trees; behind = r.behind }
with_piece closing r = record { trees = no_trees; behind = r.trees ∷ r.behind }
with_piece opening r = record { trees = subtree r.trees (first_or_none r.behind); behind = but_first r.behind }

-- a text, read from its end
abbrev pub read : List Piece → Read
read [] = record { trees = no_trees; behind = [] }
read (piece ∷ text) = with_piece piece (read text)

-- the trees of a text
abbrev pub trees_read : List Piece → TokenTrees
trees_read text = (read text).trees

abbrev piece_to : Piece → Option (Option Leaf)
piece_to (word l) = Some (Some l)
piece_to opening = Some None
piece_to closing = None

abbrev piece_from : Option (Option Leaf) → Piece
piece_from (Some (Some l)) = word l
piece_from (Some None) = opening
piece_from None = closing

pub piece_from_to : (p : Piece) → piece_from (piece_to p) ≡ p
piece_from_to (word l) = refl
piece_from_to opening = refl
piece_from_to closing = refl

abbrev pub text_code : Coded (List Piece)
text_code = coded_list (code_by (Option (Option Leaf)) (coded_option (coded_option the_leaf.the_row.coded)) piece_to piece_from piece_from_to)

-- a text that no list's end is missing in: its trees are read before what stands behind it
pub read_written : (trees : TokenTrees) (text : List Piece) → (read text).trees ≡ no_trees
    → read (written trees ++ text) ≡ record { trees = trees; behind = (read text).behind }
read_written no_trees text ends = ap (λ t. record { trees = t; behind = (read text).behind }) ends
read_written (leaf l behind) text ends = ap (with_piece (word l)) (read_written behind text ends)
read_written (subtree inside behind) text ends =
    ap (λ t. with_piece opening (read t)) (append_assoc (written inside) (closing ∷ written behind) text)
    ∙ ap (with_piece opening) (read_written inside (closing ∷ written behind ++ text) refl)
    ∙ ap (λ r. record { trees = subtree inside r.trees; behind = r.behind }) (read_written behind text ends)

pub trees_read_written : (trees : TokenTrees) → trees_read (written trees) ≡ trees
trees_read_written trees =
    ap trees_read (sym (append-nil (written trees))) ∙ ap (λ r. r.trees) (read_written trees [] refl)

abbrev pub trees_code : Coded TokenTrees
trees_code = code_by (List Piece) text_code written trees_read trees_read_written
