-- The entries of a row after a change.
use Rattle.std.proofs.Common.{◌≡◌, Bool, true, false, not, ◌&&◌, ◌||◌, cond, Option, Some, None, List, [], ◌∷◌, ◌++◌, Result, Ok, Err, refl, sym, ap, subst, ◌∙◌, inl, inr}
use Rattle.std.specs.Prelude.{is_some, is_none, IsSome, option_and_then, OnOk, OnErr}
use Rattle.std.specs.List.{list_any, IsDistinct, AllByRecursion}
use Rattle.std.specs.Map.{lookup, keys_of, remove_entry, set_value}
use Rattle.std.proofs.lemmas.Bool.{cases_Bool}
use Rattle.indexmap.specs.IndexMap.{insert_entry}
use Rattle.tree_ids.specs.declared.name.Name.{Name}
use Rattle.def_bindings.specs.declared.bindings.Namespace.{Namespace}
use Rattle.def_bindings.specs.declared.bindings.Namespace.TheVariants.{Types, Values, Macros}
use Rattle.def_bindings.specs.declared.bindings.Binding.{Binding}
use Rattle.def_bindings.specs.declared.name_bindings.NameBindings.{NameBindings}
use Rattle.def_bindings.specs.Content.{is_name, is_namespace, with_name, without_name}
use Rattle.def_bindings.specs.NameBindings.{bound_in, with_bound, is_unbound}
use Rattle.def_tables.specs.RowEntries.{or_unbound, bindings_at, binding_in, bindings_left, are_bound}
use Rattle.def_bindings.specs.IdLaws.{both, name-eq, name-sym, name-laws, cases_name}
use Rattle.def_tables.proofs.BoundNameLemmas.{bound_in-unbound}
use Rattle.std.proofs.lemmas.Map.{lookup-set_value, lookup-remove_entry, keys-set_value}

-- what equals x stands for x
by_name : (x u v : Name) → is_name x u ≡ true → is_name x v ≡ is_name u v
by_name x u v e = ap (λ z. is_name z v) (name-eq x u e)

-- a name that is not there leaves the list as it is
without-absent : (ks : List Name) (x : Name) → AllByRecursion (λ y. is_name x y ≡ false) ks → without_name ks x ≡ ks
without-absent [] x h = refl
without-absent (k ∷ ks) x h = rw h.0 (ap (λ l. k ∷ l) (without-absent ks x h.1))

module _ {V : Type 0} where
  -- those that are there or none, in each namespace
  pub bound_in-or_unbound : (o : Option (NameBindings V)) → bound_in (or_unbound o) ≡ (λ n. option_and_then (λ s. bound_in s n) o)
  bound_in-or_unbound None = bound_in-unbound
  bound_in-or_unbound (Some s) = refl

  -- a row's names after an insertion
  pub keys-insert_entry : (es : List (Name × NameBindings V)) (x : Name) (s : NameBindings V) → keys_of (insert_entry is_name es x s) ≡ with_name (keys_of es) x
  keys-insert_entry [] x s = refl
  keys-insert_entry (e ∷ es) x s =
      elim (cases_Bool (is_name x e.0)) [
        | inl h ↦ rw h refl
        | inr h ↦ rw h (ap (λ ks. e.0 ∷ ks) (keys-insert_entry es x s) ∙ out e.0 (list_any (is_name x) (keys_of es)) (keys_of es))
      ]
    where
      out : (k : Name) (b : Bool) (ks : List Name) → k ∷ cond b ks (ks ++ x ∷ []) ≡ cond b (k ∷ ks) (k ∷ (ks ++ x ∷ []))
      out k true ks = refl
      out k false ks = refl

  pub lookup-insert_entry : (es : List (Name × NameBindings V)) (x : Name) (s : NameBindings V) (y : Name) → lookup (is_name y) (insert_entry is_name es x s) ≡ cond (is_name x y) (Some s) (lookup (is_name y) es)
  lookup-insert_entry [] x s y = ap (λ b. cond b (Some s) None) (name-sym y x)
  lookup-insert_entry (e ∷ es) x s y =
      elim (cases_name x e.0) [
        | inl h ↦ rw (h.1, ← h.0, name-sym x y) (twice (is_name y x) (Some s) (Some e.1) (lookup (is_name y) es))
        | inr h ↦ rw h (ap (λ o. cond (is_name y e.0) (Some e.1) o) (lookup-insert_entry es x s y) ∙ apart x y e.0 s (Some e.1) (lookup (is_name y) es) h)
      ]
    where
      twice : {A : Type 0} (b : Bool) (p q r : A) → cond b p r ≡ cond b p (cond b q r)
      twice true p q r = refl
      twice false p q r = refl

      apart : (x y k : Name) (s : NameBindings V) (o r : Option (NameBindings V)) → is_name x k ≡ false → cond (is_name y k) o (cond (is_name x y) (Some s) r) ≡ cond (is_name x y) (Some s) (cond (is_name y k) o r)
      apart x y k s o r h =
          elim (cases_name x y) [
            | inl e ↦ let f : is_name y k ≡ false = ap (λ z. is_name z k) (sym e.0) ∙ h in rw (e.1, f) refl
            | inr e ↦ rw e refl
          ]

  pub bound_in-with_bound : (s : NameBindings V) (n : Namespace) (b : Option (Binding V)) (k : Namespace) → bound_in (with_bound s n b) k ≡ cond (is_namespace n k) b (bound_in s k)
  bound_in-with_bound s Types b Types = refl
  bound_in-with_bound s Types b Values = refl
  bound_in-with_bound s Types b Macros = refl
  bound_in-with_bound s Values b Types = refl
  bound_in-with_bound s Values b Values = refl
  bound_in-with_bound s Values b Macros = refl
  bound_in-with_bound s Macros b Types = refl
  bound_in-with_bound s Macros b Values = refl
  bound_in-with_bound s Macros b Macros = refl

  -- what is bound in a namespace is the bound_in's binding
  pub bound_in-bindings_at : (es : List (Name × NameBindings V)) (x : Name) (n : Namespace) → binding_in es x n ≡ bound_in (bindings_at es x) n
  bound_in-bindings_at es x n = of_option (lookup (is_name x) es) n
    where
      of_option : (o : Option (NameBindings V)) (n : Namespace) → option_and_then (λ s. bound_in s n) o ≡ bound_in (or_unbound o) n
      of_option None Types = refl
      of_option None Values = refl
      of_option None Macros = refl
      of_option (Some s) n = refl

  -- a write in one namespace of one name
  pub binding_in-insert_entry : (es : List (Name × NameBindings V)) (x : Name) (n : Namespace) (b : Option (Binding V)) (y : Name) (k : Namespace)
      → binding_in (insert_entry is_name es x (with_bound (bindings_at es x) n b)) y k ≡ cond (is_name x y && is_namespace n k) b (binding_in es y k)
  binding_in-insert_entry es x n b y k =
      let written = with_bound (bindings_at es x) n b in
      ap (λ o. option_and_then (λ s. bound_in s k) o) (lookup-insert_entry es x written y) ∙
      elim (cases_name x y) [
        | inl h ↦ rw h.1 (bound_in-with_bound (bindings_at es x) n b k ∙ ap (λ z. cond (is_namespace n k) b z) (sym (bound_in-bindings_at es x k) ∙ ap (λ z. binding_in es z k) h.0))
        | inr h ↦ rw h refl
      ]

  none_empty : (s : NameBindings V) (k : Namespace) → is_unbound s ≡ true → bound_in s k ≡ None
  none_empty s Types h = first s.types s.values s.macros h
    where
      first : (a b c : Option (Binding V)) → (is_none a && is_none b && is_none c) ≡ true → a ≡ None
      first None b c h = refl
      first (Some a) b c h = cc
  none_empty s Values h = second s.types s.values s.macros h
    where
      second : (a b c : Option (Binding V)) → (is_none a && is_none b && is_none c) ≡ true → b ≡ None
      second a None c h = refl
      second None (Some b) c h = cc
      second (Some a) (Some b) c h = cc
  none_empty s Macros h = third s.types s.values s.macros h
    where
      third : (a b c : Option (Binding V)) → (is_none a && is_none b && is_none c) ≡ true → c ≡ None
      third a b None h = refl
      third None None (Some c) h = cc
      third None (Some b) (Some c) h = cc
      third (Some a) None (Some c) h = cc
      third (Some a) (Some b) (Some c) h = cc

  held : (o : Option (NameBindings V)) (n : Namespace) → is_unbound (with_bound (or_unbound o) n None) ≡ false → IsSome o
  held None Types h = absurd cc
  held None Values h = absurd cc
  held None Macros h = absurd cc
  held (Some s) n h = search

  -- what is left of a name
  pub left_here : (es : List (Name × NameBindings V)) (x : Name) (n : Namespace) (k : Namespace) → bound_in (with_bound (bindings_at es x) n None) k ≡ cond (is_namespace n k) None (binding_in es x k)
  left_here es x n k = bound_in-with_bound (bindings_at es x) n None k ∙ ap (λ z. cond (is_namespace n k) None z) (sym (bound_in-bindings_at es x k))

  -- a binding taken out
  pub binding_in-bindings_left : (es : List (Name × NameBindings V)) (x : Name) (n : Namespace) → IsDistinct is_name (keys_of es) → (y : Name) (k : Namespace)
      → binding_in (bindings_left es x n) y k ≡ cond (is_name x y && is_namespace n k) None (binding_in es y k)
  binding_in-bindings_left es x n distinct y k =
      let left = with_bound (bindings_at es x) n None in
      let removed = lookup-remove_entry name-laws (is_name x) (by_name x) y es distinct in
      elim (cases_Bool (is_unbound left)) [
        | inl h ↦ rw h (ap (λ o. option_and_then (λ s. bound_in s k) o) removed ∙ elim (cases_name x y) [
          | inl e ↦ rw e.1 (sym (none_empty left k h) ∙ left_here es x n k ∙ ap (λ z. cond (is_namespace n k) None (binding_in es z k)) e.0)
          | inr e ↦ rw e refl
        ])
        | inr h ↦ rw h (ap (λ o. option_and_then (λ s. bound_in s k) o) (lookup-set_value name-laws (is_name x) (by_name x) y left es (held (lookup (is_name x) es) n h)) ∙ elim (cases_name x y) [
          | inl e ↦ rw e.1 (left_here es x n k ∙ ap (λ z. cond (is_namespace n k) None (binding_in es z k)) e.0)
          | inr e ↦ rw e refl
        ])
      ]

  keys-remove_entry : (es : List (Name × NameBindings V)) (x : Name) → IsDistinct is_name (keys_of es) → keys_of (remove_entry (is_name x) es) ≡ without_name (keys_of es) x
  unfolding IsDistinct
  keys-remove_entry [] x h = refl
  keys-remove_entry (e ∷ es) x h =
      elim (cases_name x e.0) [
        | inl k ↦ rw k.1 (sym (without-absent (keys_of es) x (subst (λ z. AllByRecursion (λ y. is_name z y ≡ false) (keys_of es)) (sym k.0) h.0)))
        | inr k ↦ rw k (ap (λ ks. e.0 ∷ ks) (keys-remove_entry es x h.1))
      ]

  -- the names once a binding is taken out
  pub keys-bindings_left : (es : List (Name × NameBindings V)) (x : Name) (n : Namespace) → IsDistinct is_name (keys_of es)
      → keys_of (bindings_left es x n) ≡ cond (is_unbound (with_bound (bindings_at es x) n None)) (without_name (keys_of es) x) (keys_of es)
  keys-bindings_left es x n distinct =
      let left = with_bound (bindings_at es x) n None in
      elim (cases_Bool (is_unbound left)) [
        | inl h ↦ rw h (keys-remove_entry es x distinct)
        | inr h ↦ rw h (keys-set_value (is_name x) es left)
      ]

bound_from_both : (p q : Bool) → p ≡ true → q ≡ true → (p && q) ≡ true
bound_from_both p q h k = rw h k

module _ {V : Type 0} where
  -- each name is still bound after an insertion of bindings
  pub bound-insert_entry : (es : List (Name × NameBindings V)) (x : Name) (s : NameBindings V) → are_bound es ≡ true → is_unbound s ≡ false → are_bound (insert_entry is_name es x s) ≡ true
  bound-insert_entry [] x s h k = rw k
  bound-insert_entry (e ∷ es) x s h k =
      let p = both (not (is_unbound e.1)) (are_bound es) h in
      elim (cases_Bool (is_name x e.0)) [
        | inl f ↦ rw (f, k) p.1
        | inr f ↦ rw f (bound_from_both (not (is_unbound e.1)) _ p.0 (bound-insert_entry es x s p.1 k))
      ]

  -- the same, where the insertion may be refused
  pub bound-inserted : {A E : Type 0} (r : Result A E) (old new : List (Name × NameBindings V)) (x : Name) (s : NameBindings V)
      → OnOk r (new ≡ insert_entry is_name old x s) → OnErr r (new ≡ old) → are_bound old ≡ true → is_unbound s ≡ false → are_bound new ≡ true
  bound-inserted (Ok _) old new x s ok err h k = ap are_bound ok ∙ bound-insert_entry old x s h k
  bound-inserted (Err _) old new x s ok err h k = ap are_bound err ∙ h

  pub bound-set_value : (es : List (Name × NameBindings V)) (x : Name) (s : NameBindings V) → are_bound es ≡ true → is_unbound s ≡ false → are_bound (set_value (is_name x) es s) ≡ true
  bound-set_value [] x s h k = refl
  bound-set_value (e ∷ es) x s h k =
      let p = both (not (is_unbound e.1)) (are_bound es) h in
      elim (cases_Bool (is_name x e.0)) [
        | inl f ↦ rw (f, k) p.1
        | inr f ↦ rw f (bound_from_both (not (is_unbound e.1)) _ p.0 (bound-set_value es x s p.1 k))
      ]

  pub bound-remove_entry : (es : List (Name × NameBindings V)) (x : Name) → are_bound es ≡ true → are_bound (remove_entry (is_name x) es) ≡ true
  bound-remove_entry [] x h = refl
  bound-remove_entry (e ∷ es) x h =
      let p = both (not (is_unbound e.1)) (are_bound es) h in
      elim (cases_Bool (is_name x e.0)) [
        | inl f ↦ rw f p.1
        | inr f ↦ rw f (bound_from_both (not (is_unbound e.1)) _ p.0 (bound-remove_entry es x p.1))
      ]

  -- each name that is left is still bound
  pub bound-bindings_left : (es : List (Name × NameBindings V)) (x : Name) (n : Namespace) → are_bound es ≡ true → are_bound (bindings_left es x n) ≡ true
  bound-bindings_left es x n h =
      let left = with_bound (bindings_at es x) n None in
      elim (cases_Bool (is_unbound left)) [
        | inl k ↦ rw k (bound-remove_entry es x h)
        | inr k ↦ rw k (bound-set_value es x left h k)
      ]

  -- bindings with one set are not empty
  pub bound-with_bound : (s : NameBindings V) (n : Namespace) (b : Binding V) → is_unbound (with_bound s n (Some b)) ≡ false
  bound-with_bound s Types b = refl
  bound-with_bound s Values b = and-false (is_none s.types)
    where
      and-false : (a : Bool) → (a && false && is_none s.macros) ≡ false
      and-false true = refl
      and-false false = refl
  bound-with_bound s Macros b = and-last (is_none s.types && is_none s.values)
    where
      and-last : (a : Bool) → (a && false) ≡ false
      and-last true = refl
      and-last false = refl

-- something is bound where not all is empty
pub bound_or_empty : {B A : Type 0} (a b c : Option B) (p q : A) → cond (is_some a || (is_some b || is_some c)) p q ≡ cond (is_none a && is_none b && is_none c) q p
bound_or_empty (Some a) b c p q = out b c p q
  where
    out : {B A : Type 0} (b c : Option B) (p q : A) → p ≡ cond (false && is_none b && is_none c) q p
    out b c p q = refl
bound_or_empty None (Some b) c p q = refl
bound_or_empty None None (Some c) p q = refl
bound_or_empty None None None p q = refl
