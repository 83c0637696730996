-- Flat lists of token trees, as they are read and as they are built.
use Rattle.std.proofs.Common.{◌≡◌, ℕ, zero, suc, ◌-◌, ◌<◌, ◌≤◌, set, get_or, List, [], ◌∷◌, ◌++◌, length, map, take, drop, refl, ap, sym, subst, ◌∙◌, append_assoc, arith, inl, inr, length-append}
use Rattle.std.proofs.lemmas.Bool.{cases_lt}
use Rattle.item_tree.specs.declared.tt.Token.{Token}
use Rattle.item_tree.specs.declared.tt.Token.TheVariants.{Leaf, Open, Close}
use Rattle.item_tree.specs.TokenTrees.{TokenTrees, no_trees, leaf, subtree, Piece, word, opening, closing, TtElement, group, token, elements, written, depth, depth_from, read, first_or_none, trees_read, trees_read_written}
use Rattle.item_tree.specs.FlatTrees.{flat, piece_of, trees_of, IsFlat, HasOpen, IsBegun}
use Rattle.std.proofs.lemmas.List.{drop_all, map-append, take_all}
use Rattle.std.proofs.Math.Seq.{set-append_seam, take-append_seam, drop-append_seam}

-- the flat list of trees, as a text, is the text of these trees
pub pieces_of_flat : (trees : TokenTrees) → map piece_of (flat trees) ≡ written trees
pieces_of_flat no_trees = refl
pieces_of_flat (leaf l behind) = ap (λ t. word l ∷ t) (pieces_of_flat behind)
pieces_of_flat (subtree inside behind) =
    ap (λ t. opening ∷ t) (map-append piece_of (flat inside) (Close ∷ flat behind)
    ∙ ap (λ t. t ++ closing ∷ map piece_of (flat behind)) (pieces_of_flat inside)
    ∙ ap (λ t. written inside ++ closing ∷ t) (pieces_of_flat behind))

-- the flat list of trees is read as these trees
pub trees_of_flat : (trees : TokenTrees) → trees_of (flat trees) ≡ trees
trees_of_flat trees = ap trees_read (pieces_of_flat trees) ∙ trees_read_written trees

pub flat_is_flat : (trees : TokenTrees) → IsFlat (flat trees)
flat_is_flat trees = ap flat (trees_of_flat trees)

-- a list that equals the flat list of trees is flat, and read as these
pub flat_when : (tokens : List Token) (trees : TokenTrees) → tokens ≡ flat trees → IsFlat tokens
flat_when tokens trees same = ap (λ t. flat (trees_of t)) same ∙ flat_is_flat trees ∙ sym same

pub read_when : (tokens : List Token) (trees : TokenTrees) → tokens ≡ flat trees → trees_of tokens ≡ trees
read_when tokens trees same = ap trees_of same ∙ trees_of_flat trees

-- trees behind others
abbrev joined : TokenTrees → TokenTrees → TokenTrees
joined no_trees more = more
joined (leaf l behind) more = leaf l (joined behind more)
joined (subtree inside behind) more = subtree inside (joined behind more)

flat_joined : (trees more : TokenTrees) → flat trees ++ flat more ≡ flat (joined trees more)
flat_joined no_trees more = refl
flat_joined (leaf l behind) more = ap (λ t. Leaf l ∷ t) (flat_joined behind more)
flat_joined (subtree inside behind) more =
    ap (λ t. Open (length (flat inside)) ∷ t) (append_assoc (flat inside) (Close ∷ flat behind) (flat more)
    ∙ ap (λ t. flat inside ++ Close ∷ t) (flat_joined behind more))

-- with more trees behind the last one
more_trees : (tokens : List Token) (innermost : ℕ) (trees : TokenTrees) (outer : List TokenTrees) (more : TokenTrees)
    → HasOpen tokens innermost trees outer → HasOpen (tokens ++ flat more) innermost (joined trees more) outer
more_trees tokens innermost trees [] more h = (ap (λ t. t ++ flat more) h.0 ∙ flat_joined trees more, h.1)
more_trees tokens innermost trees (around ∷ outer) more h = (
  h.0,
  h.1,
  ap (λ t. t ++ flat more) h.2 ∙ append_assoc h.0 (Open h.1 ∷ flat trees) (flat more)
      ∙ ap (λ t. h.0 ++ Open h.1 ∷ t) (flat_joined trees more),
  h.3,
  h.4,
)

pub begun_empty : IsBegun [] 0
begun_empty = (no_trees, [], (refl, refl))

pub begun_push : (tokens : List Token) (innermost : ℕ) (l : _) → IsBegun tokens innermost → IsBegun (tokens ++ Leaf l ∷ []) innermost
begun_push tokens innermost l b = (joined b.0 (leaf l no_trees), b.1, more_trees tokens innermost b.0 b.1 (leaf l no_trees) b.2)

pub begun_open : (tokens : List Token) (innermost n : ℕ) → IsBegun tokens innermost → n ≡ suc (length tokens)
    → IsBegun (tokens ++ Open innermost ∷ []) n
begun_open tokens innermost n b e = (no_trees, b.0 ∷ b.1, (tokens, innermost, refl, e, b.2))

-- the innermost open list, taken apart
record Innermost (tokens : List Token) (innermost : ℕ) : Type 0 where
  before : List Token
  earlier : ℕ
  inside : TokenTrees
  around : TokenTrees
  outer : List TokenTrees
  same : tokens ≡ before ++ Open earlier ∷ flat inside
  place : innermost ≡ suc (length before)
  rest : HasOpen before earlier around outer

innermost_of : (tokens : List Token) (innermost : ℕ) → IsBegun tokens innermost → 0 < innermost → Innermost tokens innermost
innermost_of tokens innermost (trees, [], h) some = absurd (omega (arith, h.1, some))
innermost_of tokens innermost (trees, around ∷ outer, h) some = record {
  before = h.0;
  earlier = h.1;
  inside = trees;
  around = around;
  outer = outer;
  same = h.2;
  place = h.3;
  rest = h.4;
}

pub innermost_in_range : (tokens : List Token) (innermost : ℕ) → IsBegun tokens innermost → 0 < innermost → innermost ≤ length tokens
innermost_in_range tokens innermost b some =
    let i = innermost_of tokens innermost b some in
    omega (arith, ap length i.same, length-append i.before (Open i.earlier ∷ flat i.inside), i.place)

-- the number in the beginning of the innermost open list
pub earlier_of : (tokens : List Token) (innermost : ℕ) → IsBegun tokens innermost → 0 < innermost → ℕ
earlier_of tokens innermost b some = (innermost_of tokens innermost b some).earlier

before_is_one_less : (n m : ℕ) → n ≡ suc m → n - 1 ≡ m
before_is_one_less n m e = omega (arith, e)

get_or_seam : (xs : List Token) (y d : Token) (ys : List Token) → get_or (xs ++ y ∷ ys) (length xs) d ≡ y
get_or_seam [] y d ys = refl
get_or_seam (x ∷ xs) y d ys = get_or_seam xs y d ys

pub innermost_is_open : (tokens : List Token) (innermost : ℕ) (d : Token) (b : IsBegun tokens innermost) (some : 0 < innermost)
    → get_or tokens (innermost - 1) d ≡ Open (earlier_of tokens innermost b some)
unfolding earlier_of
innermost_is_open tokens innermost d b some =
    let i = innermost_of tokens innermost b some in
    ap (λ n. get_or tokens n d) (before_is_one_less innermost (length i.before) i.place)
    ∙ ap (λ t. get_or t (length i.before) d) i.same
    ∙ get_or_seam i.before (Open i.earlier) d (flat i.inside)

-- the list with the innermost one closed
closed_list : (tokens : List Token) (innermost n : ℕ) (i : Innermost tokens innermost)
    → set (tokens ++ Close ∷ []) (innermost - 1) (Open n) ≡ i.before ++ Open n ∷ flat i.inside ++ Close ∷ []
closed_list tokens innermost n i =
    ap (λ k. set (tokens ++ Close ∷ []) k (Open n)) (before_is_one_less innermost (length i.before) i.place)
    ∙ ap (λ t. set (t ++ Close ∷ []) (length i.before) (Open n)) i.same
    ∙ ap (λ t. set t (length i.before) (Open n)) (append_assoc i.before (Open i.earlier ∷ flat i.inside) (Close ∷ []))
    ∙ set-append_seam i.before (Open i.earlier) (flat i.inside ++ Close ∷ []) (Open n)
    ∙ sym (append_assoc i.before (Open n ∷ flat i.inside) (Close ∷ []))

pub begun_close : (tokens : List Token) (innermost : ℕ) (b : IsBegun tokens innermost) (some : 0 < innermost)
    → IsBegun (set (tokens ++ Close ∷ []) (innermost - 1) (Open (length tokens - innermost))) (earlier_of tokens innermost b some)
unfolding earlier_of
begun_close tokens innermost b some =
    let i = innermost_of tokens innermost b some in
    let len : length tokens - innermost ≡ length (flat i.inside) =
    omega (arith, ap length i.same, length-append i.before (Open i.earlier ∷ flat i.inside), i.place) in
    let more = more_trees i.before i.earlier i.around i.outer (subtree i.inside no_trees) i.rest in
    let list : set (tokens ++ Close ∷ []) (innermost - 1) (Open (length tokens - innermost)) ≡ i.before ++ flat (subtree i.inside no_trees) =
    closed_list tokens innermost (length tokens - innermost) i
    ∙ append_assoc i.before (Open (length tokens - innermost) ∷ flat i.inside) (Close ∷ [])
    ∙ ap (λ n. i.before ++ (Open n ∷ flat i.inside ++ Close ∷ [])) len in
    (joined i.around (subtree i.inside no_trees), i.outer, rw list more)

pub text_close : (tokens : List Token) (innermost n : ℕ) → IsBegun tokens innermost → 0 < innermost
    → map piece_of (set (tokens ++ Close ∷ []) (innermost - 1) (Open n)) ≡ map piece_of tokens ++ closing ∷ []
text_close tokens innermost n b some =
    let i = innermost_of tokens innermost b some in
    ap (map piece_of) (closed_list tokens innermost n i)
    ∙ map-append piece_of (i.before ++ Open n ∷ flat i.inside) (Close ∷ [])
    ∙ ap (λ t. t ++ closing ∷ []) (map-append piece_of i.before (Open n ∷ flat i.inside)
    ∙ sym (map-append piece_of i.before (Open i.earlier ∷ flat i.inside)) ∙ ap (map piece_of) (sym i.same))

depth_append : (n : ℕ) (xs ys : List Piece) → depth_from n (xs ++ ys) ≡ depth_from (depth_from n xs) ys
depth_append n [] ys = refl
depth_append n (word l ∷ xs) ys = depth_append n xs ys
depth_append n (opening ∷ xs) ys = depth_append (suc n) xs ys
depth_append zero (closing ∷ xs) ys = depth_append zero xs ys
depth_append (suc n) (closing ∷ xs) ys = depth_append n xs ys

-- whole trees leave as many lists open as are open before them
depth_written : (n : ℕ) (trees : TokenTrees) → depth_from n (written trees) ≡ n
depth_written n no_trees = refl
depth_written n (leaf l behind) = depth_written n behind
depth_written n (subtree inside behind) =
    depth_append (suc n) (written inside) (closing ∷ written behind)
    ∙ ap (λ m. depth_from m (closing ∷ written behind)) (depth_written (suc n) inside)
    ∙ depth_written n behind

depth_open : (tokens : List Token) (innermost : ℕ) (trees : TokenTrees) (outer : List TokenTrees)
    → HasOpen tokens innermost trees outer → depth (map piece_of tokens) ≡ length outer
depth_open tokens innermost trees [] h =
    ap (λ t. depth (map piece_of t)) h.0 ∙ ap depth (pieces_of_flat trees) ∙ depth_written 0 trees
depth_open tokens innermost trees (around ∷ outer) h =
    ap (λ t. depth (map piece_of t)) h.2
    ∙ ap depth (map-append piece_of h.0 (Open h.1 ∷ flat trees))
    ∙ depth_append 0 (map piece_of h.0) (opening ∷ map piece_of (flat trees))
    ∙ ap (λ n. depth_from (suc n) (map piece_of (flat trees))) (depth_open h.0 h.1 around outer h.4)
    ∙ ap (λ t. depth_from (suc (length outer)) t) (pieces_of_flat trees)
    ∙ depth_written (suc (length outer)) trees

pub none_is_open : (tokens : List Token) (innermost : ℕ) → IsBegun tokens innermost → innermost ≡ 0 → depth (map piece_of tokens) ≡ 0
none_is_open tokens innermost (trees, [], h) none = depth_open tokens innermost trees [] h
none_is_open tokens innermost (trees, around ∷ outer, h) none = absurd (omega (arith, h.3, none))

pub some_are_open : (tokens : List Token) (innermost : ℕ) → IsBegun tokens innermost → 0 < innermost → 0 < depth (map piece_of tokens)
some_are_open tokens innermost (trees, [], h) some = absurd (omega (arith, h.1, some))
some_are_open tokens innermost (trees, around ∷ outer, h) some = omega (arith, depth_open tokens innermost trees (around ∷ outer) h)

-- where none is open, the list is flat, and its text is that of its trees
pub whole_is_flat : (tokens : List Token) (innermost : ℕ) → IsBegun tokens innermost → innermost ≡ 0 → IsFlat tokens
whole_is_flat tokens innermost (trees, [], h) none = flat_when tokens trees h.0
whole_is_flat tokens innermost (trees, around ∷ outer, h) none = absurd (omega (arith, h.3, none))

pub text_of_flat : (tokens : List Token) → IsFlat tokens → written (trees_of tokens) ≡ map piece_of tokens
text_of_flat tokens whole = sym (pieces_of_flat (trees_of tokens)) ∙ ap (map piece_of) whole

-- a flat list that begins with a delimited list, taken apart
pub record Begins (len : ℕ) (tokens : List Token) : Type 0 where
  pub inside : TokenTrees
  pub behind : TokenTrees
  pub same : trees_of (Open len ∷ tokens) ≡ subtree inside behind
  pub front : take len tokens ≡ flat inside
  pub back : drop len tokens ≡ Close ∷ flat behind

len_of : List Token → ℕ
len_of (Open n ∷ tokens) = n
len_of _ = 0

pub begins : (len : ℕ) (tokens : List Token) → IsFlat (Open len ∷ tokens) → Begins len tokens
unfolding len_of
begins len tokens h =
    let inside : TokenTrees = (read (map piece_of tokens)).trees in
    let behind : TokenTrees = first_or_none (read (map piece_of tokens)).behind in
    let n : len ≡ length (flat inside) = sym (ap len_of h) in
    let list : tokens ≡ flat inside ++ Close ∷ flat behind = sym (ap (drop 1) h) in
    record {
      inside = inside;
      behind = behind;
      same = refl;
      front = ap (λ k. take k tokens) n ∙ ap (take (length (flat inside))) list ∙ take-append_seam (flat inside) (Close ∷ flat behind);
      back = ap (λ k. drop k tokens) n ∙ ap (drop (length (flat inside))) list ∙ drop-append_seam (flat inside) (Close ∷ flat behind);
    }

pub begins_when : (len : ℕ) (tokens list : List Token) → IsFlat list → list ≡ Open len ∷ tokens → Begins len tokens
begins_when len tokens list h e = begins len tokens (subst IsFlat e h)

-- what stands behind the end of a list
pub after_close : (list tokens : List Token) → list ≡ Close ∷ tokens → take (length list - 1) (drop 1 list) ≡ tokens
after_close list tokens e =
    ap (λ l. take (length l - 1) (drop 1 l)) e ∙ take_all (suc (length tokens) - 1) tokens (omega arith)

-- the elements of trees that begin with a delimited list, by the flat lists of both parts
pub elements_begin : (len : ℕ) (tokens list front back : List Token) → list ≡ Open len ∷ tokens → (b : Begins len tokens)
    → front ≡ flat b.inside → back ≡ flat b.behind → elements (trees_of list) ≡ group (trees_of front) ∷ elements (trees_of back)
elements_begin len tokens list front back e b f g =
    ap (λ l. elements (trees_of l)) e ∙ ap elements b.same
    ∙ ap (λ t. group t ∷ elements b.behind) (sym (read_when front b.inside f))
    ∙ ap (λ t. group (trees_of front) ∷ elements t) (sym (read_when back b.behind g))

-- a list that begins with a leaf
pub flat_behind : (l : _) (tokens list : List Token) → IsFlat list → list ≡ Leaf l ∷ tokens → IsFlat tokens
flat_behind l tokens list is e = let at_leaf : IsFlat (Leaf l ∷ tokens) = subst IsFlat e is in cc

pub elements_leaf : (l : _) (tokens list : List Token) → list ≡ Leaf l ∷ tokens → elements (trees_of list) ≡ token l ∷ elements (trees_of tokens)
elements_leaf l tokens list e = ap (λ t. elements (trees_of t)) e

-- the inside is within the tokens
pub begins_within : (len : ℕ) (tokens : List Token) → Begins len tokens → len ≤ length tokens
begins_within len tokens b =
    elim (cases_lt (length tokens) len) [
      | inl over ↦ absurd (omega (arith, ap length (sym (drop_all len tokens (omega (arith, over))) ∙ b.back)))
      | inr within ↦ within
    ]

pub fewer : (xs ys : List TtElement) (x : TtElement) → xs ≡ x ∷ ys → length ys < length xs
fewer xs ys x e = omega (arith, ap length e)

number_of : Token → ℕ
number_of (Open n) = n
number_of _ = 0

-- the number that is read in the beginning of the innermost open list
pub earlier_is : (tokens : List Token) (innermost : ℕ) (d : Token) (n : ℕ) (b : IsBegun tokens innermost) (some : 0 < innermost)
    → get_or tokens (innermost - 1) d ≡ Open n → earlier_of tokens innermost b some ≡ n
unfolding number_of
earlier_is tokens innermost d n b some e = ap number_of (sym (innermost_is_open tokens innermost d b some) ∙ e)
