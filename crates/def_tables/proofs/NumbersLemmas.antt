-- The values of each module and their numbers, after one value is set.
use Rattle.std.proofs.Common.{◌≡◌, ℕ, zero, suc, ◌+◌, ◌≤◌, Bool, true, false, cond, Option, Some, None, List, [], ◌∷◌, ◌++◌, length, refl, sym, ap, subst, ◌∙◌, inl, inr, arith, append_assoc, add-zero, zero-add}
use Rattle.std.specs.Prelude.{slice_get, option_map, option_and_then, is_some, IsSome}
use Rattle.std.specs.List.{IsDistinct, AllByRecursion}
use Rattle.std.specs.Map.{lookup, keys_of, set_value}
use Rattle.std.proofs.lemmas.Bool.{cases_Bool}
use Rattle.indexmap.specs.IndexMap.{insert_entry}
use Rattle.def_ids.specs.declared.ids.ModuleId.{ModuleId}
use Rattle.def_ids.specs.Ids.{is_same_module}
use Rattle.def_tables.specs.declared.place.Placed.{Placed}
use Rattle.def_bindings.specs.Content.{listed_as}
use Rattle.def_tables.specs.Numbers.{own_entries, numbers_from, is_placed, placed_at, AreNumbered}
use Rattle.def_bindings.specs.IdLaws.{cases_module, module-refl, module-sym}
use Rattle.indexmap.specs.IndexMap.{IndexMap, get}
use Rattle.indexmap.proofs.CallerLemmas.{insert_entry-new, keys-insert_entry-present}

-- a value that is there is replaced in its place
pub set_value-insert_entry : {K W : Type 0} (eq : K → K → Bool) (es : List (K × W)) (k : K) (w : W) → IsSome (lookup (eq k) es) → set_value (eq k) es w ≡ insert_entry eq es k w
set_value-insert_entry eq [] k w h = cc
set_value-insert_entry eq (e ∷ es) k w h =
    elim (cases_Bool (eq k e.0)) [
      | inl q ↦ rw q refl
      | inr q ↦ rw q (ap (λ l. e ∷ l) (set_value-insert_entry eq es k w (rw q at h)))
    ]

module _ {K W : Type 0} (eq : K → K → Bool) (at : ModuleId) (k : K) (w : W) where
  own-here : (es : List (Placed K × W)) → own_entries (insert_entry (is_placed eq) es (placed_at at k) w) at ≡ insert_entry eq (own_entries es at) k w
  own-here [] = rw (module-refl at) refl
  own-here (e ∷ es) =
      elim (cases_module at e.0.at) [
        | inl m ↦ elim (cases_Bool (eq k e.0.key)) [
          | inl q ↦ rw (m.1, q, m.1) refl
          | inr q ↦ rw (m.1, q, m.1) (ap (λ l. (e.0.key, e.1) ∷ l) (own-here es))
        ]
        | inr m ↦ rw (m, m) (own-here es)
      ]

  own-there : (es : List (Placed K × W)) (m : ModuleId) → is_same_module at m ≡ false → own_entries (insert_entry (is_placed eq) es (placed_at at k) w) m ≡ own_entries es m
  own-there [] m apart = rw (module-sym m at ∙ apart) refl
  own-there (e ∷ es) m apart =
      elim (cases_module at e.0.at) [
        | inl c ↦
            let f : is_same_module m e.0.at ≡ false = module-sym m e.0.at ∙ (ap (λ z. is_same_module z m) (sym c.0) ∙ apart) in
            elim (cases_Bool (eq k e.0.key)) [
              | inl q ↦ rw (c.1, q, f) refl
              | inr q ↦ rw (c.1, q, f) (own-there es m apart)
            ]
        | inr c ↦ rw c (ap (λ l. cond (is_same_module m e.0.at) ((e.0.key, e.1) ∷ l) l) (own-there es m apart))
      ]

  -- a value set under a module and a key changes the entries of that module alone
  pub own-insert_entry : (es : List (Placed K × W)) → own_entries (insert_entry (is_placed eq) es (placed_at at k) w) ≡ listed_as (own_entries es) at (insert_entry eq (own_entries es at) k w)
  own-insert_entry es = λ i m. one m i
    where
      one : (m : ModuleId) → own_entries (insert_entry (is_placed eq) es (placed_at at k) w) m ≡ listed_as (own_entries es) at (insert_entry eq (own_entries es at) k w) m
      one m = elim (cases_module at m) [
        | inl e ↦ rw e.1 (ap (own_entries (insert_entry (is_placed eq) es (placed_at at k) w)) (sym e.0) ∙ own-here es)
        | inr e ↦ rw e (own-there es m e)
      ]

module _ {K W : Type 0} where
  -- the value of a key is that of its place among all
  pub lookup-own_entries : (eq : K → K → Bool) (m : ModuleId) (k : K) (es : List (Placed K × W)) → lookup (is_placed eq (placed_at m k)) es ≡ lookup (eq k) (own_entries es m)
  lookup-own_entries eq m k [] = refl
  lookup-own_entries eq m k (e ∷ es) =
      elim (cases_Bool (is_same_module m e.0.at)) [
        | inl h ↦ rw h (ap (λ o. cond (eq k e.0.key) (Some e.1) o) (lookup-own_entries eq m k es))
        | inr h ↦ rw h (lookup-own_entries eq m k es)
      ]

  -- a module has an entry where it has a number
  pub first-number : (es : List (Placed K × W)) (m : ModuleId) (i : ℕ) → is_some (slice_get (numbers_from m i (keys_of es)) 0) ≡ is_some (slice_get (own_entries es m) 0)
  first-number [] m i = refl
  first-number (e ∷ es) m i =
      elim (cases_Bool (is_same_module m e.0.at)) [
        | inl h ↦ rw h refl
        | inr h ↦ rw h (first-number es m (suc i))
      ]

  pub length-own_entries : (es : List (Placed K × W)) (m : ModuleId) → length (own_entries es m) ≤ length es
  length-own_entries [] m = omega arith
  length-own_entries (e ∷ es) m =
      let h = length-own_entries es m in
      elim (cases_Bool (is_same_module m e.0.at)) [ inl k ↦ rw k (omega arith) | inr k ↦ rw k (omega arith) ]

  apart-own_entries : (eq : K → K → Bool) (m : ModuleId) (p : Placed K) (es : List (Placed K × W)) → m ≡ p.at
      → AllByRecursion (λ y. is_placed eq p y ≡ false) (keys_of es) → AllByRecursion (λ y. eq p.key y ≡ false) (keys_of (own_entries es m))
  apart-own_entries eq m p [] same h = tt
  apart-own_entries eq m p (e ∷ es) same h =
      let rest = apart-own_entries eq m p es same h.1 in
      elim (cases_module m e.0.at) [
        | inl k ↦
            let there : is_same_module p.at e.0.at ≡ true = ap (λ z. is_same_module z e.0.at) (sym same) ∙ k.1 in
            let apart : eq p.key e.0.key ≡ false = rw there at h.0 in
            rw k.1 (apart, rest)
        | inr k ↦ rw k rest
      ]

  -- the keys of a module are apart where those of all are
  pub distinct-own_entries : (eq : K → K → Bool) (m : ModuleId) (es : List (Placed K × W)) → IsDistinct (is_placed eq) (keys_of es) → IsDistinct eq (keys_of (own_entries es m))
  unfolding IsDistinct
  distinct-own_entries eq m [] h = tt
  distinct-own_entries eq m (e ∷ es) h =
      elim (cases_module m e.0.at) [
        | inl k ↦ rw k.1 (apart-own_entries eq m e.0 es k.0 h.0, distinct-own_entries eq m es h.1)
        | inr k ↦ rw k (distinct-own_entries eq m es h.1)
      ]

  -- the entry that a number stands for
  abbrev pub numbered : List (Placed K × W) → ℕ → Option (K × W)
  numbered es i = option_map (λ e. (e.0.key, e.1)) (slice_get es i)

  after_front : (front : List (Placed K × W)) (e : Placed K × W) (es : List (Placed K × W)) → slice_get (front ++ e ∷ es) (length front) ≡ Some e
  after_front [] e es = refl
  after_front (f ∷ front) e es = after_front front e es

  length-push : (front : List (Placed K × W)) (e : Placed K × W) → length (front ++ e ∷ []) ≡ suc (length front)
  length-push [] e = refl
  length-push (f ∷ front) e = ap suc (length-push front e)

  -- the numbers after a front of all entries
  abbrev NumbersAfter : List (Placed K × W) → ℕ → List (Placed K × W) → ModuleId → Type 0
  NumbersAfter all n es m = (i : ℕ) → slice_get (own_entries es m) i ≡ option_and_then (numbered all) (slice_get (numbers_from m n (keys_of es)) i)

  at-later : (front : List (Placed K × W)) (e : Placed K × W) (es : List (Placed K × W)) (m : ModuleId)
      → NumbersAfter ((front ++ e ∷ []) ++ es) (length (front ++ e ∷ [])) es m → NumbersAfter (front ++ e ∷ es) (suc (length front)) es m
  at-later front e es m h i =
      h i
      ∙ ap (λ l. option_and_then (numbered l) (slice_get (numbers_from m (length (front ++ e ∷ [])) (keys_of es)) i)) (append_assoc front (e ∷ []) es)
      ∙ ap (λ n. option_and_then (numbered (front ++ e ∷ es)) (slice_get (numbers_from m n (keys_of es)) i)) (length-push front e)

  at-first : (front : List (Placed K × W)) (e : Placed K × W) (es : List (Placed K × W)) (m : ModuleId) → NumbersAfter (front ++ e ∷ es) (suc (length front)) es m
      → (i : ℕ) → slice_get ((e.0.key, e.1) ∷ own_entries es m) i ≡ option_and_then (numbered (front ++ e ∷ es)) (slice_get (length front ∷ numbers_from m (suc (length front)) (keys_of es)) i)
  at-first front e es m h zero = ap (λ o. option_map (λ (e : Placed K × W). (e.0.key, e.1)) o) (sym (after_front front e es))
  at-first front e es m h (suc i) = h i

  at-from : (front es : List (Placed K × W)) (m : ModuleId) → NumbersAfter (front ++ es) (length front) es m
  at-from front [] m i = refl
  at-from front (e ∷ es) m i =
      let later = at-later front e es m (at-from (front ++ e ∷ []) es m) in
      elim (cases_Bool (is_same_module m e.0.at)) [
        | inl k ↦ rw k (at-first front e es m later i)
        | inr k ↦ rw k (later i)
      ]

  -- the entry at a place of a module, by its number
  pub at-number : (es : List (Placed K × W)) (l : ModuleId → List ℕ) (m : ModuleId) (i : ℕ) (n : Option ℕ) → AreNumbered (keys_of es) l → n ≡ slice_get (l m) i
      → slice_get (own_entries es m) i ≡ option_and_then (numbered es) n
  at-number es l m i n are is = at-from [] es m i ∙ ap (λ o. option_and_then (numbered es) o) (sym (is ∙ ap (λ ns. slice_get ns i) (are m)))

module _ {K : Type 0} where
  numbers-push : (m : ModuleId) (i : ℕ) (ks : List (Placed K)) (k : Placed K) → numbers_from m i (ks ++ k ∷ []) ≡ cond (is_same_module m k.at) (numbers_from m i ks ++ (i + length ks) ∷ []) (numbers_from m i ks)
  numbers-push m i [] k = ap (λ n. cond (is_same_module m k.at) (n ∷ []) []) (sym (add-zero i))
  numbers-push m i (h ∷ ks) k =
      let rest = numbers-push m (suc i) ks k in
      let next : suc i + length ks ≡ i + length (h ∷ ks) = omega arith in
      elim (cases_Bool (is_same_module m h.at)) [
        | inl e ↦ rw e (ap (λ l. i ∷ l) rest ∙ sym (cond-cons i (is_same_module m k.at) _ _) ∙ ap (λ n. cond (is_same_module m k.at) (i ∷ (numbers_from m (suc i) ks ++ n ∷ [])) (i ∷ numbers_from m (suc i) ks)) next)
        | inr e ↦ rw e (rest ∙ ap (λ n. cond (is_same_module m k.at) (numbers_from m (suc i) ks ++ n ∷ []) (numbers_from m (suc i) ks)) next)
      ]
    where
      cond-cons : (x : ℕ) (b : Bool) (xs ys : List ℕ) → cond b (x ∷ xs) (x ∷ ys) ≡ x ∷ cond b xs ys
      cond-cons x true xs ys = refl
      cond-cons x false xs ys = refl

  -- a new key has the next number, in the list of its module
  pub numbered-push : (ks : List (Placed K)) (k : Placed K) (l l' : ModuleId → List ℕ) (n : ℕ) → AreNumbered ks l → n ≡ length ks
      → l' ≡ listed_as l k.at (l k.at ++ n ∷ []) → AreNumbered (ks ++ k ∷ []) l'
  numbered-push ks k l l' n are is pushed m =
      ap (λ f. f m) pushed ∙ elim (cases_module k.at m) [
        | inl e ↦
            let same : is_same_module m k.at ≡ true = module-sym m k.at ∙ e.1 in
            rw e.1 (ap (λ z. l z ++ n ∷ []) e.0 ∙ ap (λ xs. xs ++ n ∷ []) (are m) ∙ ap (λ j. numbers_from m 0 ks ++ j ∷ []) is
            ∙ sym (numbers-push m 0 ks k ∙ ap (λ b. cond b (numbers_from m 0 ks ++ (0 + length ks) ∷ []) (numbers_from m 0 ks)) same ∙ ap (λ j. numbers_from m 0 ks ++ j ∷ []) (zero-add (length ks))))
        | inr e ↦
            let apart : is_same_module m k.at ≡ false = module-sym m k.at ∙ e in
            rw e (are m ∙ sym (numbers-push m 0 ks k ∙ ap (λ b. cond b (numbers_from m 0 ks ++ (0 + length ks) ∷ []) (numbers_from m 0 ks)) apart))
      ]

module _ {K W : Type 0} where
  pub keys-push : (es : List (Placed K × W)) (e : Placed K × W) → keys_of (es ++ e ∷ []) ≡ keys_of es ++ e.0 ∷ []
  keys-push [] e = refl
  keys-push (f ∷ es) e = ap (λ l. f.0 ∷ l) (keys-push es e)

  pub length-keys : (es : List (Placed K × W)) → length (keys_of es) ≡ length es
  length-keys [] = refl
  length-keys (e ∷ es) = ap suc (length-keys es)

  -- the keys stay where a value is replaced
  pub numbered-present : {S : Type 0} (eq : K → K → Bool) (m : IndexMap (Placed K) W S) (p : Placed K) (w : W) (es : List (Placed K × W)) (l : ModuleId → List ℕ)
      → AreNumbered (keys_of m.entries) l → is_some (get (is_placed eq) m p) ≡ true → es ≡ insert_entry (is_placed eq) m.entries p w → AreNumbered (keys_of es) l
  numbered-present eq m p w es l are there written q =
      are q ∙ sym (ap (λ ks. numbers_from q 0 ks) (ap (λ es. keys_of es) written ∙ keys-insert_entry-present (is_placed eq) m p w there))

  -- a new key is numbered
  pub numbered-new : {S : Type 0} (eq : K → K → Bool) (room : IndexMap (Placed K) W S) (p : Placed K) (w : W) (old es : List (Placed K × W)) (l l' : ModuleId → List ℕ) (n : ℕ)
      → AreNumbered (keys_of old) l → room.entries ≡ old → lookup (is_placed eq p) old ≡ None → es ≡ insert_entry (is_placed eq) room.entries p w
      → n ≡ length old → l' ≡ listed_as l p.at (l p.at ++ n ∷ []) → AreNumbered (keys_of es) l'
  numbered-new eq room p w old es l l' n are same none written is pushed =
      let absent : get (is_placed eq) room p ≡ None = ap (λ es. lookup (is_placed eq p) es) same ∙ none in
      let pushed_keys : keys_of es ≡ keys_of old ++ p ∷ [] =
      ap (λ es. keys_of es) (written ∙ insert_entry-new (is_placed eq) room p w absent ∙ ap (λ es. es ++ (p, w) ∷ []) same) ∙ keys-push old (p, w) in
      let P : List (Placed K) → Type 0 = λ ks. AreNumbered ks l' in
      subst P (sym pushed_keys) (numbered-push (keys_of old) p l l' n are (is ∙ sym (length-keys old)) pushed)

  pub numbered-at : (es : List (Placed K × W)) (n : ℕ) (p : Placed K) (w : W) → Some (p, w) ≡ slice_get es n → numbered es n ≡ Some (p.key, w)
  numbered-at es n p w h = rw (← h) refl

  pub numbered-past : (es : List (Placed K × W)) (n : ℕ) → None ≡ slice_get es n → numbered es n ≡ None
  numbered-past es n h = rw (← h) refl
