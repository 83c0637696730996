-- What is found by keys, where keys and values stand in lists of their own.
use Rattle.std.proofs.Common.{◌≡◌, ℕ, zero, suc, ◌<◌, Bool, true, false, not, List, [], ◌∷◌, ◌++◌, Option, Some, None, length, get_or, slice_get, position, refl, sym, ap, subst, ◌∙◌, inl, inr, true≢false}
use Rattle.std.specs.Prelude.{set, if◌then◌else◌, option_to_list, is_some, IfSome, IsSome}
use Rattle.std.specs.Cmp.{IsEquivalence}
use Rattle.std.specs.List.{IsDistinct, AllByRecursion, zip, swap_remove, list_any}
use Rattle.std.specs.Map.{keys_of, lookup}
use Rattle.std.proofs.lemmas.Bool.{cases_Bool}
use Rattle.std.proofs.lemmas.List.{length-set, same_from_push}
use Rattle.std.proofs.lemmas.Option.{slice_get_within, slice_get-get_or}
use Rattle.std_collections.proofs.Zip.{keys_of-zip, values_of-zip, length-zip_even, zip-append, slice_get_at, zip-set_value, zip-swap_remove}
use Rattle.std_collections.proofs.HashLookup.{IsAbsent, IsFirst, IsFirst-from_index, Updated, Updated-push, Updated-set, Updated-take, lookup-IsAbsent, lookup-IsFirst}
use Rattle.indexmap.specs.IndexSet.{insert_key}
use Rattle.indexmap.proofs.MapLemmas.{Found-position, Missing-position}

-- the element at a place
get_or-at : {X : Type 0} (xs : List X) (n : ℕ) (x d : X) → slice_get xs n ≡ Some x → get_or xs n d ≡ x
get_or-at [] n x d h = cc
get_or-at (y ∷ ys) zero x d h = cc
get_or-at (y ∷ ys) (suc n) x d h = get_or-at ys n x d h

-- what is new is not there
pub there-from : (new there : Bool) → new ≡ not there → new ≡ false → there ≡ true
there-from new true h e = refl
there-from new false h e = cc

pub absent-from : (new there : Bool) → new ≡ not there → new ≡ true → there ≡ false
absent-from new true h e = cc
absent-from new false h e = refl

-- no key passes
all-fail : {K : Type 0} (t : K → Bool) (ks : List K) → list_any t ks ≡ false → AllByRecursion (λ k. t k ≡ false) ks
all-fail t [] h = tt
all-fail t (k ∷ ks) h =
    elim (cases_Bool (t k)) [
      | inl y ↦ cc (rw y at h)
      | inr n ↦ (n, all-fail t ks (rw n at h))
    ]

module _ {K X : Type 0} (R : K → K → Bool) (o : IsEquivalence R) (ks : List K) (vs : List X) (even : length vs ≡ length ks) where
  keys-are : keys_of (zip ks vs) ≡ ks
  keys-are = keys_of-zip ks vs even

  -- the value of the key with this number among all
  pub found-at : (k : K) (n : ℕ) → position (R k) ks ≡ Some n → lookup (R k) (zip ks vs) ≡ slice_get vs n
  found-at k n p =
      (Found-position (R k) (zip ks vs) n (ap (position (R k)) keys-are ∙ p)).value ∙ ap (λ l. slice_get l n) (values_of-zip ks vs even)

  -- a key that is not there has no value
  pub found-none : (k : K) → position (R k) ks ≡ None → lookup (R k) (zip ks vs) ≡ None
  found-none k p = (Missing-position (R k) (zip ks vs) (ap (position (R k)) keys-are ∙ p)).value

  -- the first value of a key is replaced
  replaced-first : (k : K) (n : ℕ) → IsFirst (R k) (zip ks vs) n → (w : X) → Updated R o (R k) (zip ks vs) (zip ks (set vs n w)) (Some w)
  replaced-first k n first w = subst (λ l. Updated R o (R k) (zip ks vs) l (Some w)) (sym (zip-set_value ks vs n w)) (Updated-set R o (R k) (o.congr k) (zip ks vs) n w first)

  module _ (k : K) (n : ℕ) (found : position (R k) ks ≡ Some n) where
    found-first : IsFirst (R k) (zip ks vs) n
    found-first = (Found-position (R k) (zip ks vs) n (ap (position (R k)) keys-are ∙ found)).first

    -- the value that was found is replaced
    pub set-at : (w : X) → Updated R o (R k) (zip ks vs) (zip ks (set vs n w)) (Some w)
    set-at = replaced-first k n found-first

    -- the value that was found is taken out with its key
    pub removed-at : IsDistinct R ks → (there : K) (v : X) → Updated R o (R k) (zip ks vs) (zip (swap_remove ks n there) (swap_remove vs n v)) None
    removed-at distinct there v =
        subst (λ l. Updated R o (R k) (zip ks vs) l None) (sym (zip-swap_remove ks vs n there v even))
        (Updated-take R o (R k) (o.congr k) (zip ks vs) n (there, v) (subst (IsDistinct R) (sym keys-are) distinct) found-first)

  module _ (distinct : IsDistinct R ks) (n : ℕ) (k there : K) (at : slice_get ks n ≡ Some there) (is : R k there ≡ true) where
    apart : IsDistinct R (keys_of (zip ks vs))
    apart = subst (IsDistinct R) (sym keys-are) distinct

    first : IsFirst (R k) (zip ks vs) n
    first =
        IsFirst-from_index R o (R k) (o.congr k) (zip ks vs) n there apart
        (subst (λ m. n < m) (sym (length-zip_even ks vs even)) (slice_get_within ks n there at))
        (ap (λ l. R k (get_or l n there)) keys-are ∙ ap (R k) (get_or-at ks n there there at) ∙ is)

    -- the value of a key that is equal to the one with this number
    pub numbered-at : lookup (R k) (zip ks vs) ≡ slice_get vs n
    numbered-at = lookup-IsFirst (R k) (zip ks vs) n first ∙ ap (λ l. slice_get l n) (values_of-zip ks vs even)

    -- that value is replaced
    pub replaced-at : (w : X) → Updated R o (R k) (zip ks vs) (zip ks (set vs n w)) (Some w)
    replaced-at = replaced-first k n first

  absent : (k : K) → list_any (R k) ks ≡ false → IsAbsent (R k) (zip ks vs)
  absent k none = subst (AllByRecursion (λ x. R k x ≡ false)) (sym keys-are) (all-fail (R k) ks none)

  -- a value is added behind the last
  pub pushed : (k : K) (v : X) → list_any (R k) ks ≡ false → Updated R o (R k) (zip ks vs) (zip (ks ++ k ∷ []) (vs ++ v ∷ [])) (Some v)
  pushed k v none =
      subst (λ l. Updated R o (R k) (zip ks vs) l (Some v)) (sym (zip-append ks vs (k ∷ []) (v ∷ []) even))
      (Updated-push R o (zip ks vs) k v (absent k none))

-- where there are no values, nothing is paired
pub none-paired : {K X : Type 0} (ks : List K) (vs : List X) → length vs ≡ length ks → (vs ≡ [] → zip ks vs ≡ []) × (zip ks vs ≡ [] → vs ≡ [])
none-paired [] [] even = (λ e. refl, λ e. refl)
none-paired [] (v ∷ vs) even = cc
none-paired (k ∷ ks) [] even = cc
none-paired (k ∷ ks) (v ∷ vs) even = (λ e. cc, λ e. cc)

-- a key and a place for its value: the key is there at its number, or was added as the last one
module _ {K X : Type 0} (R : K → K → Bool) (o : IsEquivalence R) (ks ks' : List K) (vs vs' : List X) (even : length vs ≡ length ks) (same : vs' ≡ vs) (k : K) (keys : ks' ≡ insert_key R ks k) where
  known-keys : list_any (R k) ks ≡ true → ks' ≡ ks
  known-keys known = keys ∙ ap (λ b. if b then ks else ks ++ k ∷ []) known

  new-keys : list_any (R k) ks ≡ false → ks' ≡ ks ++ k ∷ []
  new-keys new = keys ∙ ap (λ b. if b then ks else ks ++ k ∷ []) new

  module _ (known : list_any (R k) ks ≡ true) (distinct : IsDistinct R ks') (n : ℕ) (stored : (there : K) × (slice_get ks' n ≡ Some there) × (R k there ≡ true)) where
    even' : length vs' ≡ length ks'
    even' = ap length same ∙ even ∙ ap length (sym (known-keys known))

    rows : zip ks' vs' ≡ zip ks vs
    rows = λ i. zip (known-keys known i) (same i)

    pub known-before : (v : X) → v ≡ get_or vs' n v → lookup (R k) (zip ks vs) ≡ Some v
    known-before v at =
        ap (lookup (R k)) (sym rows) ∙ numbered-at R o ks' vs' even' distinct n k stored.0 stored.1 stored.2
        ∙ slice_get_at vs' n v (subst (λ m. n < m) (sym even') (slice_get_within ks' n stored.0 stored.1)) at

    pub known-after : (w : X) → lookup (R k) (zip ks' (set vs' n w)) ≡ Some w
    known-after w = (replaced-at R o ks' vs' even' distinct n k stored.0 stored.1 stored.2 w).1

    pub known-others : (w : X) (q : K) → R k q ≡ false → lookup (R q) (zip ks' (set vs' n w)) ≡ lookup (R q) (zip ks vs)
    known-others w q apart = (replaced-at R o ks' vs' even' distinct n k stored.0 stored.1 stored.2 w).2 q apart ∙ ap (lookup (R q)) rows

  module _ (new : list_any (R k) ks ≡ false) where
    pub new-before : lookup (R k) (zip ks vs) ≡ None
    new-before = lookup-IsAbsent (R k) (zip ks vs) (absent R o ks vs even k new)

    pub new-after : (w : X) → lookup (R k) (zip ks' (vs' ++ w ∷ [])) ≡ Some w
    new-after w = (λ i. lookup (R k) (zip (new-keys new i) (same i ++ w ∷ []))) ∙ (pushed R o ks vs even k w new).1

    pub new-others : (w : X) (q : K) → R k q ≡ false → lookup (R q) (zip ks' (vs' ++ w ∷ [])) ≡ lookup (R q) (zip ks vs)
    new-others w q apart = (λ i. lookup (R q) (zip (new-keys new i) (same i ++ w ∷ []))) ∙ (pushed R o ks vs even k w new).2 q apart

    -- the key is taken back
    pub taken-back : (ls : List K) (r : Option K) → ks' ≡ ls ++ option_to_list r → IsSome r → ls ≡ ks
    taken-back ls None popped some = absurd (true≢false (sym some))
    taken-back ls (Some x) popped some = sym (same_from_push ks ls k x (sym (new-keys new) ∙ popped)).0

-- a value is looked for, changed, and taken out with its key
module _ {K X : Type 0} (R : K → K → Bool) (o : IsEquivalence R) (ks : List K) (vs : List X) (even : length vs ≡ length ks) (k : K) (n : ℕ) (found : position (R k) ks ≡ Some n) (within : n < length ks) where
  pub found-before : (v : X) → v ≡ get_or vs n v → lookup (R k) (zip ks vs) ≡ Some v
  found-before v at = found-at R o ks vs even k n found ∙ slice_get_at vs n v (subst (λ m. n < m) (sym even) within) at

  module _ (distinct : IsDistinct R ks) (w v : X) (ls : List K) (us : List X) (out : Option K) (key : out ≡ slice_get ks n) (keys : IfSome out (λ x. ls ≡ swap_remove ks n x)) (values : us ≡ swap_remove (set vs n w) n v) where
    there : out ≡ Some (get_or ks n k)
    there = key ∙ slice_get-get_or ks n k within

    left-keys : ls ≡ swap_remove ks n (get_or ks n k)
    left-keys = subst (λ r. IfSome r (λ x. ls ≡ swap_remove ks n x)) there keys

    set-even : length (set vs n w) ≡ length ks
    set-even = length-set vs n w ∙ even

    rows-left : Updated R o (R k) (zip ks (set vs n w)) (zip ls us) None
    rows-left =
        subst (λ l. Updated R o (R k) (zip ks (set vs n w)) l None) (sym (λ i. zip (left-keys i) (values i)))
        (removed-at R o ks (set vs n w) set-even k n found distinct (get_or ks n k) v)

    pub removed-after : lookup (R k) (zip ls us) ≡ None
    removed-after = rows-left.1

    pub removed-others : (q : K) → R k q ≡ false → lookup (R q) (zip ls us) ≡ lookup (R q) (zip ks vs)
    removed-others q apart = rows-left.2 q apart ∙ (set-at R o ks vs even k n found w).2 q apart

    pub removed-some : is_some out ≡ true
    removed-some = ap is_some there
