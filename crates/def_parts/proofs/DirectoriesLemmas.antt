-- What the calls on directories find in texts.
use Rattle.std.proofs.Common.{◌≡◌, ℕ, zero, suc, ◌+◌, ◌-◌, ◌<◌, ◌≤◌, ◌≢◌, Bool, true, false, cond, ◌==◌, Option, Some, None, List, [], ◌∷◌, ◌++◌, length, take, drop, get_or, refl, sym, ap, ◌∙◌, subst, inl, inr, append_assoc, arith, zero-add, length-drop}
use Rattle.std.proofs.lemmas.List.{at_drop_all, at_drop_more, map-append}
use Rattle.std.specs.Prelude.{codes, map, is_some, option_map, option_and_then, ◌||◌, String, string_bytes, Err}
use Rattle.std.specs.Bool.{MatchBool}
use Rattle.item_tree.specs.Lists.{or_else}
use Rattle.std.proofs.lemmas.Bool.{cases_Bool, eqb-true, false≢true}
use Rattle.def_readings.specs.Directories.{slash, base_of, clean, joined_text, pieces_of, without_last, without_last_empty, dir_pieces, is_text, is_mod_rs, without_dot, as_slash, Directory, Files, child as child_of, found_directory, found_file, in_candidate, candidates, split_text, FoundFile, first_found, or_candidates, resolve_declaration}
use Rattle.tree_ids.specs.declared.ids.HirFileId.{HirFileId}
use Rattle.std.specs.Global.{Global}
use Rattle.tree_ids.specs.declared.ids.FileId.{FileId}
use Rattle.std.specs.Str.Pattern.{HasSuffixMatch, FindsTextSuffix}
use Rattle.def_parts.specs.DirectoriesLaws.{IsDirText, pieces-behind, wle-append, joined_pieces, some_piece, pieces-append, dir_pieces-slash}

-- where no byte is '/', the text is one piece
pub one_piece : (text : List ℕ) → ((i : ℕ) → i < length text → get_or text i 0 ≢ slash) → pieces_of text ≡ text ∷ []
one_piece [] h = refl
one_piece (c ∷ text) h =
    let ih = one_piece text (λ i l. h (suc i) (omega arith)) in
    elim (cases_Bool (c == slash)) [
      | inl e ↦ absurd (h 0 (omega arith) (eqb-true c slash e))
      | inr e ↦ rw (e, ih) refl
    ]

without_last-push : (ps : List (List ℕ)) (p : List ℕ) → without_last (ps ++ p ∷ []) ≡ ps
without_last-push [] p = refl
without_last-push (q ∷ []) p = refl
without_last-push (q ∷ r ∷ ps) p = ap (λ l. q ∷ l) (without_last-push (r ∷ ps) p)

-- the parent of a directory without a '/' before its last
pub parent_none : (dir front : List ℕ) → dir ≡ front ++ slash ∷ [] → ((i : ℕ) → i < length front → get_or front i 0 ≢ slash) → without_last (dir_pieces dir) ≡ []
parent_none dir front e h = ap (λ d. without_last (dir_pieces d)) e ∙ ap without_last (dir_pieces-slash front ∙ one_piece front h)

-- and with one
pub parent_some : (dir front first last : List ℕ) → dir ≡ front ++ slash ∷ [] → front ≡ first ++ slash ∷ last → ((i : ℕ) → i < length last → get_or last i 0 ≢ slash)
    → dir_pieces (first ++ slash ∷ []) ≡ without_last (dir_pieces dir)
parent_some dir front first last e f h =
    let whole : dir_pieces dir ≡ pieces_of first ++ last ∷ [] =
    ap dir_pieces e ∙ dir_pieces-slash front ∙ ap pieces_of f ∙ pieces-append first last ∙ ap (λ ps. pieces_of first ++ ps) (one_piece last h) in
    dir_pieces-slash first ∙ sym (without_last-push (pieces_of first) last) ∙ ap without_last (sym whole)

mod_rs-push : (first : List ℕ) (rest : List (List ℕ)) (last : List ℕ) → is_mod_rs (first ∷ (rest ++ last ∷ [])) ≡ is_text last (codes "mod.rs")
mod_rs-push first [] last = refl
mod_rs-push first (p ∷ []) last = refl
mod_rs-push first (p ∷ q ∷ rest) last = mod_rs-push p (q ∷ rest) last

is_text-equal : (a b : List ℕ) → is_text a b ≡ true → a ≡ b
is_text-equal [] [] h = refl
is_text-equal [] (b ∷ bs) h = cc
is_text-equal (a ∷ xs) [] h = cc
is_text-equal (a ∷ xs) (b ∷ bs) h =
    elim (cases_Bool (a == b)) [
      | inl e ↦ let same : a ≡ b = eqb-true a b e in let rest : xs ≡ bs = is_text-equal xs bs (rw e at h) in cc
      | inr e ↦ let wrong : false ≡ true = rw e at h in cc
    ]

joined-push : (first : List ℕ) (rest : List (List ℕ)) (last : List ℕ) → joined_text (first ∷ (rest ++ last ∷ [])) ≡ joined_text (first ∷ rest) ++ slash ∷ last
joined-push first [] last = refl
joined-push first (p ∷ rest) last = ap (λ l. first ++ slash ∷ l) (joined-push p rest last) ∙ sym (append_assoc first (slash ∷ joined_text (p ∷ rest)) (slash ∷ last))

-- the pieces that a mod.rs has
mod_rs_last : (first : List ℕ) (rest : List (List ℕ)) → is_mod_rs (first ∷ rest) ≡ true → (front : List (List ℕ)) × (rest ≡ front ++ codes "mod.rs" ∷ [])
mod_rs_last first [] h = cc
mod_rs_last first (last ∷ []) h = ([], ap (λ p. p ∷ []) (is_text-equal last (codes "mod.rs") h))
mod_rs_last first (p ∷ q ∷ rest) h = let t = mod_rs_last p (q ∷ rest) h in (p ∷ t.0, ap (λ l. p ∷ l) t.1)

-- a text that ends with "/mod.rs" is a mod.rs
mod_rs_yes : (front text : List ℕ) → text ≡ front ++ codes "/mod.rs" → is_mod_rs (pieces_of text) ≡ true
mod_rs_yes front text e =
    let t = some_piece front in
    ap (λ l. is_mod_rs (pieces_of l)) e ∙ ap is_mod_rs (pieces-append front (codes "mod.rs"))
    ∙ (ap (λ ps. is_mod_rs (ps ++ codes "mod.rs" ∷ [])) t.1.1 ∙ mod_rs-push t.0 t.1.0 (codes "mod.rs"))

-- and a mod.rs ends with it
mod_rs_ends : (text : List ℕ) → is_mod_rs (pieces_of text) ≡ true → (front : List ℕ) × (text ≡ front ++ codes "/mod.rs")
mod_rs_ends text h =
    let t = some_piece text in
    let r = mod_rs_last t.0 t.1.0 (ap is_mod_rs (sym t.1.1) ∙ h) in (
      joined_text (t.0 ∷ r.0),
      sym (joined_pieces text) ∙ ap joined_text (t.1.1 ∙ ap (λ l. t.0 ∷ l) r.1) ∙ joined-push t.0 r.0 (codes "mod.rs"),
    )

-- the test for a mod.rs, by whether the text ends with "/mod.rs"
pub mod_rs_is : (r : Bool) (text : List ℕ) → (r ≡ true → (front : List ℕ) × (text ≡ front ++ codes "/mod.rs")) → (r ≡ false → (front : List ℕ) → text ≢ front ++ codes "/mod.rs")
    → r ≡ is_mod_rs (pieces_of text)
mod_rs_is true text ends never = let f = ends refl in sym (mod_rs_yes f.0 text f.1)
mod_rs_is false text ends never =
    elim (cases_Bool (is_mod_rs (pieces_of text))) [
      | inl h ↦ let f = mod_rs_ends text h in absurd (never refl f.0 f.1)
      | inr h ↦ sym h
    ]

-- an attribute's text that begins with "./", and one that does not
pub dot_yes : (text rest : List ℕ) → text ≡ codes "./" ++ rest → rest ≡ without_dot text
dot_yes text rest e = sym (ap without_dot e)

pub dot_no : (text : List ℕ) → ((rest : List ℕ) → text ≢ codes "./" ++ rest) → text ≡ without_dot text
dot_no [] h = refl
dot_no (a ∷ []) h = elim (cases_Bool (46 == a)) [ inl e ↦ rw e refl | inr e ↦ rw e refl ]
dot_no (a ∷ b ∷ text) h =
    elim (cases_Bool (46 == a)) [
      | inr e ↦ rw e refl
      | inl e ↦ elim (cases_Bool (47 == b)) [
        | inr f ↦ rw (e, f) refl
        | inl f ↦
            let first : 46 ≡ a = eqb-true 46 a e in
            let second : 47 ≡ b = eqb-true 47 b f in
            let whole : a ∷ b ∷ text ≡ codes "./" ++ text = ap (λ x. x ∷ b ∷ text) (sym first) ∙ ap (λ y. 46 ∷ y ∷ text) (sym second) in
            absurd (h text whole)
      ]
    ]

-- a text without a backslash is as it is with '/' for each
pub unslashed : (text : List ℕ) → ((i : ℕ) → i < length text → get_or text i 0 ≢ 92) → map as_slash text ≡ text
unslashed [] h = refl
unslashed (c ∷ text) h =
    let ih = unslashed text (λ i l. h (suc i) (omega arith)) in
    elim (cases_Bool (c == 92)) [
      | inl e ↦ absurd (h 0 (omega arith) (eqb-true c 92 e))
      | inr e ↦ rw (e, ih) refl
    ]

split_at_slash : (front : List ℕ) (k : ℕ) → k < length front → get_or front k 0 ≡ slash → front ≡ take k front ++ slash ∷ drop (suc k) front
split_at_slash [] k l h = absurd (omega arith)
split_at_slash (c ∷ front) zero l h = ap (λ x. x ∷ front) h
split_at_slash (c ∷ front) (suc k) l h = ap (λ xs. c ∷ xs) (split_at_slash front k (omega arith) h)

take_at_slash : (front : List ℕ) (k : ℕ) → k < length front → get_or front k 0 ≡ slash → take (suc k) front ≡ take k front ++ slash ∷ []
take_at_slash [] k l h = absurd (omega arith)
take_at_slash (c ∷ front) zero l h = ap (λ x. x ∷ []) h
take_at_slash (c ∷ front) (suc k) l h = ap (λ xs. c ∷ xs) (take_at_slash front k (omega arith) h)

behind : (front : List ℕ) (k i : ℕ) → get_or (drop k front) i 0 ≡ get_or front (k + i) 0
behind front zero i = ap (λ n. get_or front n 0) (sym (zero-add i))
behind [] (suc k) i = refl
behind (c ∷ front) (suc k) i = behind front k i ∙ ap (λ n. get_or (c ∷ front) n 0) (suc_sum k i)
  where
    suc_sum : (k i : ℕ) → suc (k + i) ≡ suc k + i
    suc_sum k i = omega arith

-- the parent of a directory is what stands up to the last '/' but one
pub parent_at : (dir front : List ℕ) (k : ℕ) → dir ≡ front ++ slash ∷ []
    → (k < length front) × (get_or front k 0 ≡ slash) × ((i : ℕ) → k < i → i < length front → get_or front i 0 ≢ slash)
    → (dir_pieces (take (k + 1) front) ≡ without_last (dir_pieces dir)) × IsDirText (take (k + 1) front)
parent_at dir front k e h =
    let n : k + 1 ≡ suc k = omega arith in
    let cut : take (k + 1) front ≡ take k front ++ slash ∷ [] = ap (λ m. take m front) n ∙ take_at_slash front k h.0 h.1 in
    let free : (i : ℕ) → i < length (drop (suc k) front) → get_or (drop (suc k) front) i 0 ≢ slash = λ i l is. h.2 (suc k + i) (omega arith) (omega (arith, length-drop (suc k) front)) (sym (behind front (suc k) i) ∙ is) in (
      ap dir_pieces cut ∙ (parent_some dir front (take k front) (drop (suc k) front) e (split_at_slash front k h.0 h.1) free),
      inr (take k front, cut),
    )

-- the parent of a directory of one piece
pub parent_of_one : (dir front : List ℕ) → dir ≡ front ++ slash ∷ [] → ((i : ℕ) → i < length front → get_or front i 0 ≢ slash)
    → (dir_pieces [] ≡ without_last (dir_pieces dir)) × IsDirText []
parent_of_one dir front e h = (sym (parent_none dir front e h), inl refl)

-- a directory that does not end with '/' is empty
pub parent_of_none : (dir : List ℕ) → IsDirText dir → ((front : List ℕ) → dir ≢ front ++ slash ∷ []) → dir_pieces dir ≡ []
parent_of_none dir is never = elim is [ inl e ↦ ap dir_pieces e | inr h ↦ absurd (never h.0 h.1) ]

-- one part of a text is appended, with a '/' for the backslash behind it
pub pushed_part : (path part rest text : List ℕ) → text ≡ part ++ 92 ∷ rest → ((i : ℕ) → i < length part → get_or part i 0 ≢ 92)
    → ((path ++ part) ++ slash ∷ []) ++ map as_slash rest ≡ path ++ map as_slash text
pushed_part path part rest text e free =
    let whole : map as_slash text ≡ part ++ slash ∷ map as_slash rest = ap (map as_slash) e ∙ map-append as_slash part (92 ∷ rest) ∙ ap (λ xs. xs ++ slash ∷ map as_slash rest) (unslashed part free) in
    rw whole (append_assoc (path ++ part) (slash ∷ []) (map as_slash rest) ∙ append_assoc path part (slash ∷ map as_slash rest))

-- the directory of a name
pub joined_name : (dir name path : List ℕ) → IsDirText dir → path ≡ (dir ++ name) ++ slash ∷ [] → dir_pieces path ≡ dir_pieces dir ++ pieces_of name
joined_name dir name path is e = ap dir_pieces e ∙ dir_pieces-slash (dir ++ name) ∙ pieces-behind dir name is

-- whether a text that is not empty is a directory's
pub dir_text_is : (r : Bool) (text : List ℕ) → (text ≡ [] → ⊥) → (r ≡ true → text ≡ take (length text - 1) text ++ slash ∷ []) → ((front : List ℕ) → text ≡ front ++ slash ∷ [] → r ≡ true)
    → MatchBool r (IsDirText text) (IsDirText text → ⊥)
dir_text_is true text some ends never = inr (take (length text - 1) text, ends refl)
dir_text_is false text some ends never = λ is. elim is [ inl e ↦ some e | inr f ↦ false≢true (never f.0 f.1) ]

-- an attribute's text behind a directory's
pub joined_attr : (base text path : List ℕ) → IsDirText base → path ≡ base ++ text → pieces_of path ≡ dir_pieces base ++ pieces_of text
joined_attr base text path is e = ap pieces_of e ∙ pieces-behind base text is

-- a file's name behind a directory's text
pub joined_file : (dir name end path : List ℕ) → IsDirText dir → path ≡ (dir ++ name) ++ end → pieces_of path ≡ dir_pieces dir ++ pieces_of (name ++ end)
joined_file dir name end path is e = ap pieces_of (e ∙ append_assoc dir name end) ∙ pieces-behind dir (name ++ end) is

-- without an empty last piece of the end
pub closed_end : (front : List (List ℕ)) (text path : List ℕ) → pieces_of path ≡ front ++ pieces_of text → without_last_empty (pieces_of path) ≡ front ++ without_last_empty (pieces_of text)
closed_end front text path e =
    let t = some_piece text in
    ap without_last_empty e ∙ subst (λ ps. without_last_empty (front ++ ps) ≡ front ++ without_last_empty ps) (sym t.1.1) (wle-append front t.0 t.1.0)

-- the same, by the clause of `ends_with`
pub mod_rs_by : (r : Bool) (text : List ℕ) → MatchBool r (HasSuffixMatch (FindsTextSuffix (codes "/mod.rs")) text) (FindsTextSuffix (codes "/mod.rs") text None) → r ≡ is_mod_rs (pieces_of text)
mod_rs_by true text h = sym (mod_rs_yes (take (length text - h.0) text) text h.1.1)
mod_rs_by false text h = mod_rs_is false text (λ e. cc) (λ _. h)

-- a text has a piece
pub pieces_some : (text : List ℕ) (pieces : List (List ℕ)) → pieces ≡ pieces_of text → pieces ≡ [] → ⊥
pieces_some text pieces e h = let t = some_piece text in let f : [] ≡ t.0 ∷ t.1.0 = sym h ∙ (e ∙ t.1.1) in cc

pub is_some-map : {A B : Type 0} (f : A → B) (o : Option A) → is_some (option_map f o) ≡ is_some o
is_some-map f None = refl
is_some-map f (Some x) = refl

module _ (files : Files) (anchor : FileId) (dir : Directory) (name text : List ℕ) (attr : Option (List ℕ)) where
  -- what is found in a text is found in its pieces
  in_text : (file : Option FileId) → file ≡ files.resolve_path anchor text
      → option_and_then (found_file dir name attr (pieces_of text)) file ≡ in_candidate files anchor dir name attr (pieces_of text)
  in_text file e = ap (option_and_then (found_file dir name attr (pieces_of text))) (e ∙ ap (files.resolve_path anchor) (sym (joined_pieces text)))

  pub not_found : None ≡ files.resolve_path anchor text → None ≡ in_candidate files anchor dir name attr (pieces_of text)
  not_found e = in_text None e

  pub found_in : (file : FileId) (is_mod has_attr : Bool) (child : Option Directory) → Some file ≡ files.resolve_path anchor text → is_mod ≡ is_mod_rs (pieces_of text) → has_attr ≡ is_some attr
      → child ≡ cond (is_mod || has_attr) (child_of dir [] false) (child_of dir (pieces_of name) true)
      → option_map (λ d. (file, is_mod, d)) child ≡ in_candidate files anchor dir name attr (pieces_of text)
  found_in file is_mod has_attr child e m h d =
      let of_child : child ≡ found_directory dir name attr (pieces_of text) = d ∙ ap (λ b. cond (b || has_attr) (child_of dir [] false) (child_of dir (pieces_of name) true)) m
      ∙ ap (λ b. cond (is_mod_rs (pieces_of text) || b) (child_of dir [] false) (child_of dir (pieces_of name) true)) h in
      ap (λ b. option_map (λ d. (file, b, d)) child) m ∙ ap (option_map (λ d. (file, is_mod_rs (pieces_of text), d))) of_child ∙ in_text (Some file) e

-- the two files of a module without an attribute
pub two_candidates : (dir : Directory) (name : List ℕ) (first second : String Global) (none one two : List (String Global)) → none ≡ [] → one ≡ none ++ first ∷ [] → two ≡ one ++ second ∷ []
    → split_text first ≡ dir.pieces ++ pieces_of (name ++ codes ".rs") → split_text second ≡ dir.pieces ++ pieces_of (name ++ codes "/mod.rs") → map split_text two ≡ candidates dir name None
two_candidates dir name first second none one two e f g h k =
    let both : two ≡ first ∷ second ∷ [] = g ∙ ap (λ xs. xs ++ second ∷ []) (f ∙ ap (λ xs. xs ++ first ∷ []) e) in
    let last : split_text second ≡ dir.pieces ++ (pieces_of name ++ codes "mod.rs" ∷ []) = k ∙ ap (λ ps. dir.pieces ++ ps) (pieces-append name (codes "mod.rs")) in
    ap (map split_text) both ∙ (ap (λ p. p ∷ split_text second ∷ []) h ∙ ap (λ p. (dir.pieces ++ pieces_of (name ++ codes ".rs")) ∷ p ∷ []) last)

-- the one file of a module with an attribute
pub one_candidate : (dir : Directory) (name attr : List ℕ) (first : String Global) (none one : List (String Global)) → none ≡ [] → one ≡ none ++ first ∷ []
    → split_text first ≡ base_of dir.pieces dir.root_non_dir_owner ++ pieces_of (clean attr) → map split_text one ≡ candidates dir name (Some attr)
one_candidate dir name attr first none one e f h = ap (map split_text) (f ∙ ap (λ xs. xs ++ first ∷ []) e) ∙ ap (λ p. p ∷ []) h

-- the texts of candidates
pub joined_texts : (files : List (String Global)) → map joined_text (map split_text files) ≡ map string_bytes files
joined_texts [] = refl
joined_texts (file ∷ files) = ap (λ t. t ∷ map joined_text (map split_text files)) (joined_pieces (string_bytes file)) ∙ ap (λ ts. string_bytes file ∷ ts) (joined_texts files)

-- where no candidate is found, all of them are the answer
pub all_candidates : (files : Files) (file : HirFileId) (dir : Directory) (name : List ℕ) (attr : Option (List ℕ)) (items : List (String Global)) (found : Option FoundFile)
    → map split_text items ≡ candidates dir name attr → found ≡ first_found files (files.original_file file) dir name attr (map split_text items) → found ≡ None
    → resolve_declaration files file dir name attr ≡ Err (map string_bytes items)
all_candidates files file dir name attr items found e f n =
    let nothing : first_found files (files.original_file file) dir name attr (candidates dir name attr) ≡ None = ap (first_found files (files.original_file file) dir name attr) (sym e) ∙ (sym f ∙ n) in
    ap (λ r. or_candidates r (map joined_text (candidates dir name attr))) nothing ∙ ap Err (ap (map joined_text) (sym e) ∙ joined_texts items)

-- a candidate stands where it is there, and gives way where it is not
stands : {X : Type 0} (o rest : Option X) → is_some o ≡ true → o ≡ or_else o rest
stands (Some x) rest there = refl
stands None rest there = absurd (false≢true there)

gives_way : {X : Type 0} (o rest : Option X) → is_some o ≡ false → or_else o rest ≡ rest
gives_way None rest missing = refl
gives_way (Some x) rest missing = absurd (false≢true (sym missing))

-- a search goes over the candidates one by one
module _ (files : Files) (anchor : FileId) (dir : Directory) (name : List ℕ) (attr : Option (List ℕ)) (items : List (String Global)) (i : ℕ) where
  abbrev found_among : List (String Global) → Option FoundFile
  found_among list = first_found files anchor dir name attr (map split_text list)

  module _ (item d : String Global) (text : List ℕ) (found : Option FoundFile) (within : i < length items) (read : item ≡ get_or items i d) (same : text ≡ string_bytes item)
      (is : found ≡ in_candidate files anchor dir name attr (pieces_of text)) (so_far : found_among (drop i items) ≡ found_among items) where
    by_item : or_else found (found_among (drop (i + 1) items)) ≡ found_among items
    by_item =
        ap (λ o. or_else o (found_among (drop (i + 1) items))) (is ∙ ap (λ t. in_candidate files anchor dir name attr (pieces_of t)) same)
        ∙ ap (λ x. found_among (x ∷ drop (i + 1) items)) read
        ∙ sym (at_drop_more found_among items i d within)
        ∙ so_far

    -- the next one is there
    pub first_here : is_some found ≡ true → found ≡ found_among items
    first_here there = stands found (found_among (drop (i + 1) items)) there ∙ by_item

    -- it is not, and the others are left
    pub first_later : is_some found ≡ false → found_among (drop (i + 1) items) ≡ found_among items
    first_later missing = sym (gives_way found (found_among (drop (i + 1) items)) missing) ∙ by_item

  -- none is left
  pub first_nowhere : length items ≤ i → found_among (drop i items) ≡ found_among items → None ≡ found_among items
  first_nowhere past so_far = sym (at_drop_all found_among items i past) ∙ so_far
