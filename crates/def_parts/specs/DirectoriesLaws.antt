-- Texts and pieces of directories.
use Rattle.std.specs.Prelude.{◌≡◌, ℕ, ◌==◌, Bool, true, false, cond, ◌⊎◌, List, [], ◌∷◌, ◌++◌, refl}
use Rattle.std.specs.List.{onto_first}
use Rattle.std.proofs.Common.{sym, ap, ◌∙◌, subst, inl, inr, append_assoc}
use Rattle.std.proofs.lemmas.Bool.{cases_Bool, eqb-true}
use Rattle.std.proofs.lemmas.List.Splits.{join_with_byte-slice_split}
use Rattle.def_readings.specs.Directories.{slash, dir_text, joined_text, pieces_of, without_last, without_last_empty, dir_pieces}

-- empty, or ending with '/'
abbrev pub IsDirText : List ℕ → Type 0
IsDirText text = (text ≡ []) ⊎ ((front : List ℕ) × (text ≡ front ++ slash ∷ []))

-- the pieces joined give the text
pub joined_pieces : (text : List ℕ) → joined_text (pieces_of text) ≡ text
joined_pieces text = join_with_byte-slice_split slash text

-- there is a piece
pub some_piece : (text : List ℕ) → (first : List ℕ) × ((rest : List (List ℕ)) × (pieces_of text ≡ first ∷ rest))
some_piece [] = ([], ([], refl))
some_piece (c ∷ text) =
    elim (cases_Bool (c == slash)) [
      | inl h ↦ rw h ([], (pieces_of text, refl))
      | inr h ↦ let t = some_piece text in rw (h, t.1.1) (c ∷ t.0, (t.1.0, refl))
    ]

onto_append : (c : ℕ) (text : List ℕ) (ys : List (List ℕ)) → onto_first c (pieces_of text ++ ys) ≡ onto_first c (pieces_of text) ++ ys
onto_append c text ys = let t = some_piece text in rw t.1.1 refl

-- a text is split at a '/' in it
pub pieces-append : (front text : List ℕ) → pieces_of (front ++ slash ∷ text) ≡ pieces_of front ++ pieces_of text
pieces-append [] text = refl
pieces-append (c ∷ front) text =
    let ih = pieces-append front text in
    elim (cases_Bool (c == slash)) [
      | inl h ↦ rw (h, ih) refl
      | inr h ↦ rw (h, ih) (onto_append c front (pieces_of text))
    ]

wle-cons : (p q : List ℕ) (qs : List (List ℕ)) → without_last_empty (p ∷ q ∷ qs) ≡ p ∷ without_last_empty (q ∷ qs)
wle-cons [] q qs = refl
wle-cons (c ∷ p) q qs = refl

-- an empty last piece is dropped from the end alone
pub wle-append : (ps : List (List ℕ)) (q : List ℕ) (qs : List (List ℕ)) → without_last_empty (ps ++ q ∷ qs) ≡ ps ++ without_last_empty (q ∷ qs)
wle-append [] q qs = refl
wle-append (p ∷ []) q qs = wle-cons p q qs
wle-append (p ∷ r ∷ ps) q qs = wle-cons p r (ps ++ q ∷ qs) ∙ ap (λ l. p ∷ l) (wle-append (r ∷ ps) q qs)

append-nil : {X : Type 0} (xs : List X) → xs ++ [] ≡ xs
append-nil [] = refl
append-nil (x ∷ xs) = ap (λ l. x ∷ l) (append-nil xs)

-- the pieces of a directory's text are those before its last '/'
pub dir_pieces-slash : (front : List ℕ) → dir_pieces (front ++ slash ∷ []) ≡ pieces_of front
dir_pieces-slash front = ap without_last_empty (pieces-append front []) ∙ wle-append (pieces_of front) [] [] ∙ append-nil (pieces_of front)

pub IsDirText-slash : (front : List ℕ) → IsDirText (front ++ slash ∷ [])
IsDirText-slash front = inr (front, refl)

-- a text behind a directory's has the directory's pieces and its own
pub pieces-behind : (dir text : List ℕ) → IsDirText dir → pieces_of (dir ++ text) ≡ dir_pieces dir ++ pieces_of text
pieces-behind dir text is =
    elim is [
      | inl e ↦ ap (λ d. pieces_of (d ++ text)) e ∙ ap (λ d. dir_pieces d ++ pieces_of text) (sym e)
      | inr h ↦
          ap (λ d. pieces_of (d ++ text)) h.1 ∙ ap pieces_of (append_assoc h.0 (slash ∷ []) text) ∙ pieces-append h.0 text
          ∙ ap (λ ps. ps ++ pieces_of text) (sym (dir_pieces-slash h.0)) ∙ ap (λ d. dir_pieces d ++ pieces_of text) (sym h.1)
    ]

dir_text-pieces : (front : List ℕ) → dir_text (pieces_of front) ≡ front ++ slash ∷ []
dir_text-pieces [] = refl
dir_text-pieces (c ∷ front) =
    let ih = dir_text-pieces front in
    elim (cases_Bool (c == slash)) [
      | inl h ↦ let e : c ≡ slash = eqb-true c slash h in rw h (ap (λ l. slash ∷ l) ih ∙ ap (λ d. d ∷ (front ++ slash ∷ [])) (sym e))
      | inr h ↦ let t = some_piece front in let ih' : dir_text (t.0 ∷ t.1.0) ≡ front ++ slash ∷ [] = ap dir_text (sym t.1.1) ∙ ih in rw (h, t.1.1) (ap (λ l. c ∷ l) ih')
    ]

-- a directory's text is that of its pieces
pub dir_text-dir_pieces : (dir : List ℕ) → IsDirText dir → dir_text (dir_pieces dir) ≡ dir
dir_text-dir_pieces dir is =
    elim is [
      | inl e ↦ ap (λ d. dir_text (dir_pieces d)) e ∙ sym e
      | inr h ↦ ap (λ d. dir_text (dir_pieces d)) h.1 ∙ ap dir_text (dir_pieces-slash h.0) ∙ dir_text-pieces h.0 ∙ sym h.1
    ]

wle-tail : (p q : List ℕ) (qs : List (List ℕ)) → without_last_empty (p ∷ q ∷ qs) ≡ p ∷ q ∷ qs → without_last_empty (q ∷ qs) ≡ q ∷ qs
wle-tail p q qs h = let e : p ∷ without_last_empty (q ∷ qs) ≡ p ∷ q ∷ qs = sym (wle-cons p q qs) ∙ h in cc

wle-onto : (c : ℕ) (p : List ℕ) (ps : List (List ℕ)) → without_last_empty (p ∷ ps) ≡ p ∷ ps → without_last_empty ((c ∷ p) ∷ ps) ≡ (c ∷ p) ∷ ps
wle-onto c p [] h = refl
wle-onto c p (q ∷ qs) h = wle-cons (c ∷ p) q qs ∙ ap (λ l. (c ∷ p) ∷ l) (wle-tail p q qs h)

full_first : (c : ℕ) (p : List ℕ) (ps : List (List ℕ)) → without_last_empty (p ∷ ps) ≡ p ∷ ps → (b : Bool)
    → without_last_empty (cond b ([] ∷ p ∷ ps) (onto_first c (p ∷ ps))) ≡ cond b ([] ∷ p ∷ ps) (onto_first c (p ∷ ps))
full_first c p ps h true = wle-cons [] p ps ∙ ap (λ l. [] ∷ l) h
full_first c p ps h false = wle-onto c p ps h

-- a text that is not empty and does not end with '/' has no empty last piece
pub full_pieces : (text : List ℕ) → (IsDirText text → ⊥) → without_last_empty (pieces_of text) ≡ pieces_of text
full_pieces [] never = absurd (never (inl refl))
full_pieces (c ∷ []) never =
    elim (cases_Bool (c == slash)) [
      | inl h ↦ absurd (never (inr ([], ap (λ d. d ∷ []) (eqb-true c slash h))))
      | inr h ↦ rw h refl
    ]
full_pieces (c ∷ d ∷ text) never =
    let later : IsDirText (d ∷ text) → ⊥ = λ is. elim is [ inl e ↦ cc | inr f ↦ never (inr (c ∷ f.0, ap (λ l. c ∷ l) f.1)) ] in
    let ih = full_pieces (d ∷ text) later in
    let t = some_piece (d ∷ text) in
    let ih' : without_last_empty (t.0 ∷ t.1.0) ≡ t.0 ∷ t.1.0 = ap without_last_empty (sym t.1.1) ∙ (ih ∙ t.1.1) in
    subst (λ ps. without_last_empty (cond (c == slash) ([] ∷ ps) (onto_first c ps)) ≡ cond (c == slash) ([] ∷ ps) (onto_first c ps)) (sym t.1.1)
    (full_first c t.0 t.1.0 ih' (c == slash))

-- a text, closed by '/' unless it is a directory's, has the text's pieces without an empty last one
pub closed_pieces : (text : List ℕ) → (IsDirText text → ⊥) → dir_pieces (text ++ slash ∷ []) ≡ without_last_empty (pieces_of text)
closed_pieces text never = dir_pieces-slash text ∙ sym (full_pieces text never)

-- the pieces of what follows a directory, without an empty last one
pub pieces_inside : (dir text : List ℕ) → IsDirText dir → without_last_empty (pieces_of (dir ++ text)) ≡ dir_pieces dir ++ without_last_empty (pieces_of text)
pieces_inside dir text is =
    let t = some_piece text in
    ap without_last_empty (pieces-behind dir text is)
    ∙ subst (λ ps. without_last_empty (dir_pieces dir ++ ps) ≡ dir_pieces dir ++ without_last_empty ps) (sym t.1.1) (wle-append (dir_pieces dir) t.0 t.1.0)

without_last-push : (ps : List (List ℕ)) (p : List ℕ) → without_last (ps ++ p ∷ []) ≡ ps
without_last-push [] p = refl
without_last-push (q ∷ []) p = refl
without_last-push (q ∷ r ∷ ps) p = ap (λ l. q ∷ l) (without_last-push (r ∷ ps) p)
