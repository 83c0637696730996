-- Keys of maps in the order of insertion: each stands once, and is gone once its entry is removed. So it is with the positions at which derives are deferred.
use Rattle.std.proofs.Common.{◌≡◌, ◌⊎◌, inl, inr, ℕ, Bool, true, false, cond, ◌==◌, ◌&&◌, List, [], ◌∷◌, Contains, Option, Some, None, get_or, refl, sym, ap, ◌∙◌, subst, arith}
use Rattle.std.specs.Prelude.{position, swap_remove, IsPermutation}
use Rattle.std.specs.Cmp.{IsEquivalence, nat_eq_equiv}
use Rattle.std.specs.List.{AllByRecursion, IsDistinct}
use Rattle.std.specs.Map.{keys_of}
use Rattle.std.specs.Option.{option_map_or}
use Rattle.std.proofs.lemmas.Bool.{and_from, and_parts}
use Rattle.std.proofs.lemmas.List.{get_or-map, get_or_default}
use Rattle.std.proofs.lemmas.List.Quantifiers.{position-Some}
use Rattle.std.proofs.lemmas.List.Sorted.{Contains-permutation, IsPermutation-map, IsPermutation-swap_remove, IsPermutation-sym}
use Rattle.indexmap.proofs.MapLemmas.{Found-position, Missing-position, distinct_permutation, swap_remove-default}
use Rattle.indexmap.specs.IndexMap.{insert_entry, swap_remove_entry}
use Rattle.tree_ids.specs.declared.ids.FileAstId.{FileAstId}
use Rattle.tree_ids.specs.declared.ids.HirFileId.{HirFileId}
use Rattle.tree_ids.specs.declared.ids.HirFileId.TheVariants.{File, Macro}
use Rattle.tree_ids.specs.declared.ids.InFile.{InFile}
use Rattle.def_globs.proofs.ListLaws.{first_in, in_cases, later_in, none_in}
use Rattle.def_modules.specs.Equality.{file_eq, position_eq}

-- what holds of each of a list holds of one of them
each_of : {X : Type 0} (P : X → Type 0) (xs : List X) (x : X) → AllByRecursion P xs → Contains xs x → P x
each_of P [] x all h = absurd (none_in x h)
each_of P (y ∷ xs) x all h = elim (in_cases y xs x h) [ inl here ↦ subst P (sym here) all.0 | inr later ↦ each_of P xs x all.1 later ]

module _ {K V : Type 0} (eq : K → K → Bool) (laws : IsEquivalence eq) (key : K) where
  -- An entry that is inserted

  -- no key joins but this one
  pub inserted_key : (es : List (K × V)) (v : V) (x : K) → Contains (keys_of (insert_entry eq es key v)) x → Contains (keys_of es) x ⊎ (x ≡ key)
  inserted_key [] v x h = elim (in_cases key [] x h) [ inl here ↦ inr here | inr later ↦ inl later ]
  inserted_key (e ∷ es) v x h = by (λ later. inserted_key es v x later) (eq key e.0) h
    where
      by : (Contains (keys_of (insert_entry eq es key v)) x → Contains (keys_of es) x ⊎ (x ≡ key)) → (b : Bool) → Contains (keys_of (cond b ((e.0, v) ∷ es) (e ∷ insert_entry eq es key v))) x
          → Contains (keys_of (e ∷ es)) x ⊎ (x ≡ key)
      by rest true h = inl h
      by rest false h = elim (in_cases e.0 (keys_of (insert_entry eq es key v)) x h) [
        | inl first ↦ inl (subst (λ y. Contains (keys_of (e ∷ es)) y) (sym first) (first_in e.0 (keys_of es)))
        | inr later ↦ elim (rest later) [ inl old ↦ inl (later_in e.0 (keys_of es) x old) | inr new ↦ inr new ]
      ]

  -- one that is apart from all keys and from this one stays so
  inserted_apart : (other : K) → eq other key ≡ false → (es : List (K × V)) (v : V) → AllByRecursion (λ y. eq other y ≡ false) (keys_of es) → AllByRecursion (λ y. eq other y ≡ false) (keys_of (insert_entry eq es key v))
  inserted_apart other apart [] v all = (apart, tt)
  inserted_apart other apart (e ∷ es) v all = by (inserted_apart other apart es v all.1) (eq key e.0)
    where
      by : AllByRecursion (λ y. eq other y ≡ false) (keys_of (insert_entry eq es key v)) → (b : Bool) → AllByRecursion (λ y. eq other y ≡ false) (keys_of (cond b ((e.0, v) ∷ es) (e ∷ insert_entry eq es key v)))
      by rest true = all
      by rest false = (all.0, rest)

  -- each key still stands once
  pub inserted_distinct : (es : List (K × V)) (v : V) → IsDistinct eq (keys_of es) → IsDistinct eq (keys_of (insert_entry eq es key v))
  unfolding IsDistinct
  inserted_distinct [] v once = (tt, tt)
  inserted_distinct (e ∷ es) v once = by (inserted_distinct es v once.1) (eq key e.0) refl
    where
      by : IsDistinct eq (keys_of (insert_entry eq es key v)) → (b : Bool) → eq key e.0 ≡ b → IsDistinct eq (keys_of (cond b ((e.0, v) ∷ es) (e ∷ insert_entry eq es key v)))
      by rest true is = once
      by rest false is = (inserted_apart e.0 (laws.symm e.0 key ∙ is) es v once.0, rest)

  -- An entry that is removed

  -- what is left: each key stands once and was there before, and this one is gone
  pub record IsWithout (es left : List (K × V)) : Type 0 where
    pub distinct : IsDistinct eq (keys_of left)
    pub before : (x : K) → Contains (keys_of left) x → Contains (keys_of es) x
    pub gone : (x : K) → Contains (keys_of left) x → eq key x ≡ false

  -- the key is gone once its entry is removed
  pub removed_without : (es : List (K × V)) → IsDistinct eq (keys_of es) → IsWithout es (swap_remove_entry (eq key) es)
  unfolding IsDistinct
  removed_without [] once = record { distinct = once; before = λ x h. h; gone = λ x h. absurd (none_in x h) }
  removed_without (e ∷ es) once = by (position (eq key) (keys_of (e ∷ es))) refl
    where
      by : (o : Option ℕ) → position (eq key) (keys_of (e ∷ es)) ≡ o → IsWithout (e ∷ es) (option_map_or (λ i. swap_remove (e ∷ es) i e) o (e ∷ es))
      by None is = record { distinct = once; before = λ x h. h; gone = λ x h. each_of (λ y. eq key y ≡ false) (keys_of (e ∷ es)) x (Missing-position (eq key) (e ∷ es) is).absent h }
      by (Some i) is =
          let all : List (K × V) = e ∷ es in
          let within = (Found-position (eq key) all i is).within in
          let out : K × V = get_or all i e in
          let rest : List (K × V) = swap_remove all i e in
          let same : swap_remove all i e ≡ swap_remove all i out = swap_remove-default all i e out (omega arith) in
          let moved : IsPermutation all (out ∷ swap_remove all i out) = IsPermutation-swap_remove all i out within (get_or_default all i e out within) in
          let moves : IsPermutation all (out ∷ rest) = subst (λ l. IsPermutation all (out ∷ l)) (sym same) moved in
          let keys : IsPermutation (keys_of all) (keys_of (out ∷ rest)) = IsPermutation-map (λ (x : K × V). x.0) all (out ∷ rest) moves in
          let apart : IsDistinct eq (keys_of (out ∷ rest)) = distinct_permutation laws (keys_of all) (keys_of (out ∷ rest)) keys once in
          let passes : eq key out.0 ≡ true = ap (eq key) (sym (get_or-map (λ (x : K × V). x.0) all i e e.0 within)) ∙ (position-Some (eq key) (keys_of all) i e.0 is).1 in
          record {
            distinct = apart.1;
            before = λ x h. Contains-permutation (keys_of (out ∷ rest)) (keys_of all) x (IsPermutation-sym _ _ keys) (later_in out.0 (keys_of rest) x h);
            gone = λ x h. laws.congr key out.0 x passes ∙ each_of (λ y. eq out.0 y ≡ false) (keys_of rest) x apart.0 h;
          }

-- Positions

-- a file is the same as itself
file_same : (a : HirFileId) → file_eq a a ≡ true
file_same (File a) = nat_eq_equiv.refl a.0
file_same (Macro a) = nat_eq_equiv.refl a.0

-- either file may be named first
file_turned : (a b : HirFileId) → file_eq a b ≡ file_eq b a
file_turned (File a) (File b) = nat_eq_equiv.symm a.0 b.0
file_turned (File a) (Macro b) = refl
file_turned (Macro a) (File b) = refl
file_turned (Macro a) (Macro b) = nat_eq_equiv.symm a.0 b.0

-- two files that are the same are the same as the same others
file_like : (a b c : HirFileId) → file_eq a b ≡ true → file_eq a c ≡ file_eq b c
file_like (File a) (File b) (File c) same = nat_eq_equiv.congr a.0 b.0 c.0 same
file_like (File a) (File b) (Macro c) same = refl
file_like (File a) (Macro b) c same = absurd (cc same)
file_like (Macro a) (File b) c same = absurd (cc same)
file_like (Macro a) (Macro b) (File c) same = refl
file_like (Macro a) (Macro b) (Macro c) same = nat_eq_equiv.congr a.0 b.0 c.0 same

-- so it is with positions
position_like : (a b c : InFile FileAstId) → position_eq a b ≡ true → position_eq a c ≡ position_eq b c
position_like a b c same =
    let parts = and_parts (file_eq a.file b.file) (a.value.0 == b.value.0) same in
    let file = file_like a.file b.file c.file parts.0 in
    let value = nat_eq_equiv.congr a.value.0 b.value.0 c.value.0 parts.1 in
    λ i. file i && value i

-- the test of positions is an equivalence
pub position_laws : IsEquivalence position_eq
position_laws = record {
  refl = λ a. and_from _ _ (file_same a.file) (nat_eq_equiv.refl a.value.0);
  symm = λ a b i. file_turned a.file b.file i && nat_eq_equiv.symm a.value.0 b.value.0 i;
  congr = position_like;
}
