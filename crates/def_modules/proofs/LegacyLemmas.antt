-- Textual macros that are defined in turn.
use Rattle.std.proofs.Common.{◌≡◌, ℕ, zero, suc, ◌+◌, ◌<◌, true, false, List, [], ◌∷◌, ◌++◌, Some, None, refl, sym, ap, ◌∙◌, inl, inr, slice_get, take, length, reverse, append_assoc, get_or, arith}
use Rattle.std.specs.List.{IsDistinct, AllByRecursion}
use Rattle.std.specs.Map.{lookup, keys_of}
use Rattle.std.specs.Option.{option_map_or}
use Rattle.std.proofs.lemmas.Bool.{cases_Bool}
use Rattle.std.proofs.lemmas.List.{append-nil}
use Rattle.std.proofs.lemmas.Option.{slice_get-get_or}
use Rattle.tree_ids.specs.declared.name.Name.{Name}
use Rattle.def_ids.specs.declared.ids.MacroId.{MacroId}
use Rattle.def_bindings.specs.Content.{is_name}
use Rattle.def_bindings.specs.IdLaws.{name-eq, name-sym}
use Rattle.def_modules.specs.ScopeMaps.{with_first, with_last, named_first, last_macros, defined_all, AreLastOf}

-- the pairs of a list in two parts
pub last_macros-append : (es fs : List (Name × List MacroId)) → last_macros (es ++ fs) ≡ last_macros es ++ last_macros fs
last_macros-append [] fs = refl
last_macros-append (e ∷ es) fs = ap (λ ps. named_first e.0 (reverse e.1) ++ ps) (last_macros-append es fs) ∙ sym (append_assoc (named_first e.0 (reverse e.1)) (last_macros es) (last_macros fs))

-- macros that are defined in two parts
pub defined_all-append : (own : Name → List MacroId) (ps qs : List (Name × MacroId)) → defined_all own (ps ++ qs) ≡ defined_all (defined_all own ps) qs
defined_all-append own [] qs = refl
defined_all-append own (p ∷ ps) qs = defined_all-append (with_first own p.0 p.1) ps qs

-- a prefix that is one longer
pub take_one_more : {X : Type 0} (xs : List X) (i : ℕ) (x : X) → slice_get xs i ≡ Some x → take (i + 1) xs ≡ take i xs ++ x ∷ []
take_one_more xs i x at = ap (λ k. take k xs) (next_is i) ∙ by xs i at
  where
    next_is : (i : ℕ) → i + 1 ≡ suc i
    next_is i = omega arith

    by : (xs : List _) (i : ℕ) → slice_get xs i ≡ Some x → take (suc i) xs ≡ take i xs ++ x ∷ []
    by [] i h = cc
    by (y ∷ ys) zero h = let same : y ≡ x = cc in ap (λ z. z ∷ []) same
    by (y ∷ ys) (suc i) h = ap (λ zs. y ∷ zs) (by ys i h)

-- a name that no key is
absent : (name : Name) (es : List (Name × List MacroId)) → AllByRecursion (λ y. is_name name y ≡ false) (keys_of es) → (x : Name) → name ≡ x → lookup (is_name x) es ≡ None
absent name [] h x same = refl
absent name (e ∷ es) h x same = let apart : is_name x e.0 ≡ false = ap (λ n. is_name n e.0) (sym same) ∙ h.0 in rw apart (absent name es h.1 x same)

shown : Name → List (Name × List MacroId) → List MacroId
shown x es = option_map_or reverse (lookup (is_name x) es) []

module _ (e : Name × List MacroId) (es : List (Name × List MacroId)) (apart : AllByRecursion (λ y. is_name e.0 y ≡ false) (keys_of es)) (own : Name → List MacroId) where
  here : (x : Name) → is_name e.0 x ≡ true → shown x (e ∷ es) ≡ reverse e.1
  unfolding shown
  here x t = let same : is_name x e.0 ≡ true = name-sym x e.0 ∙ t in rw same refl

  there : (x : Name) → is_name e.0 x ≡ false → shown x (e ∷ es) ≡ shown x es
  unfolding shown
  there x f = let other : is_name x e.0 ≡ false = name-sym x e.0 ∙ f in rw other refl

  none : (x : Name) → is_name e.0 x ≡ true → shown x es ≡ []
  unfolding shown
  none x t = ap (λ o. option_map_or reverse o []) (absent e.0 es apart x (name-eq e.0 x t))

  first_step : (ms : List MacroId) → reverse e.1 ≡ ms → (x : Name) → with_last (shown x es) (defined_all own (named_first e.0 ms) x) ≡ with_last (shown x (e ∷ es)) (own x)
  first_step [] is x =
      elim (cases_Bool (is_name e.0 x)) [
        | inl t ↦ ap (λ r. with_last r (own x)) (none x t) ∙ ap (λ r. with_last r (own x)) (sym (here x t ∙ is))
        | inr f ↦ ap (λ r. with_last r (own x)) (sym (there x f))
      ]
  first_step (l ∷ before) is x =
      elim (cases_Bool (is_name e.0 x)) [
        | inl t ↦
            let set : with_first own e.0 l x ≡ l ∷ own x = rw t (ap (λ n. l ∷ own n) (name-eq e.0 x t)) in
            ap (λ r. with_last r (with_first own e.0 l x)) (none x t) ∙ set ∙ ap (λ r. with_last r (own x)) (sym (here x t ∙ is))
        | inr f ↦
            let kept : with_first own e.0 l x ≡ own x = rw f refl in
            ap (with_last (shown x es)) kept ∙ ap (λ r. with_last r (own x)) (sym (there x f))
      ]

last-brings : (es : List (Name × List MacroId)) → IsDistinct is_name (keys_of es) → (own : Name → List MacroId) → defined_all own (last_macros es) ≡ (λ x. with_last (shown x es) (own x))
unfolding IsDistinct shown
last-brings [] d own = refl
last-brings (e ∷ es) d own =
    let rest = last-brings es d.1 (defined_all own (named_first e.0 (reverse e.1))) in
    defined_all-append own (named_first e.0 (reverse e.1)) (last_macros es) ∙ rest ∙ (λ i x. first_step e es d.0 own (reverse e.1) refl x i)

-- the last macro of each name, where no two keys are equal
pub are_last : (es : List (Name × List MacroId)) → IsDistinct is_name (keys_of es) → AreLastOf (λ x. option_map_or reverse (lookup (is_name x) es) []) (last_macros es)
unfolding shown
are_last es d own = last-brings es d own

-- one pair more is defined
pub pair_defined : (own : Name → List MacroId) (ps : List (Name × MacroId)) (i : ℕ) (d : Name × MacroId) → i < length ps
    → with_first (defined_all own (take i ps)) (get_or ps i d).0 (get_or ps i d).1 ≡ defined_all own (take (i + 1) ps)
pair_defined own ps i d within =
    sym (ap (defined_all own) (take_one_more ps i (get_or ps i d) (slice_get-get_or ps i d within)) ∙ defined_all-append own (take i ps) (get_or ps i d ∷ []))

-- the last macro of one name more
pub last_more : (es : List (Name × List MacroId)) (i : ℕ) (e : Name × List MacroId) → slice_get es i ≡ Some e
    → last_macros (take i es) ++ named_first e.0 (reverse e.1) ≡ last_macros (take (i + 1) es)
last_more es i e at =
    ap (λ ps. last_macros (take i es) ++ ps) (sym (append-nil (named_first e.0 (reverse e.1)))) ∙ sym (ap last_macros (take_one_more es i e at) ∙ last_macros-append (take i es) (e ∷ []))
