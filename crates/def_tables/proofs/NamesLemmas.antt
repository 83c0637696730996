-- Names that stand once.
use Rattle.std.proofs.Common.{◌≡◌, ◌||◌, ◌<◌, ℕ, zero, suc, Bool, true, false, cond, List, [], ◌∷◌, ◌++◌, All, length, get_or, refl, sym, ap, subst, ◌∙◌, inl, inr, arith}
use Rattle.std.proofs.Common.{Result, Ok, Err}
use Rattle.std.specs.declared.alloc.AllocError.{AllocError}
use Rattle.std.specs.Prelude.{IfSome, OnOk, OnErr, Option, Some, None, not, remove}
use Rattle.std.specs.Option.{option_map_or}
use Rattle.std.proofs.lemmas.Bool.{false≢true}
use Rattle.std.proofs.lemmas.List.Kept.{AllPairs-filter}
use Rattle.std.proofs.lemmas.List.Quantifiers.{all_pairs_push}
use Rattle.tree_ids.specs.declared.name.Name.{Name}
use Rattle.def_ids.specs.declared.ids.ModuleId.{ModuleId}
use Rattle.def_bindings.specs.Content.{is_listed, is_name, listed_as, without_name}
use Rattle.def_bindings.specs.IdLaws.{cases_module, cases_name, name-eq, name-sym}
use Rattle.def_tables.specs.Lists.{AreDistinct, HaveOnce}

rest-distinct : (x : Name) (xs : List Name) → AreDistinct (x ∷ xs) → AreDistinct xs
rest-distinct x xs once = λ i j d below within. once (suc i) (suc j) d (omega (arith, below)) (omega (arith, within))

-- a name that is not there leaves all
pub without-absent : (xs : List Name) (x : Name) → All (λ y. is_name x y ≡ false) xs → xs ≡ without_name xs x
without-absent [] x absent = refl
without-absent (y ∷ ys) x absent =
    rw (absent 0 y (omega arith)) (ap (λ l. y ∷ l) (without-absent ys x (λ k d within. absent (suc k) d (omega (arith, within)))))

-- and one that stands at a place leaves all others
pub without-at : (xs : List Name) (x : Name) (i : ℕ) (d : Name) → AreDistinct xs → i < length xs → is_name x (get_or xs i d) ≡ true → remove xs i ≡ without_name xs x
without-at [] x i d once within is = absurd (omega (arith, within))
without-at (y ∷ ys) x zero d once within is =
    rw is (without-absent ys x (λ k d within. ap (λ z. is_name z (get_or ys k d)) (name-eq x y is) ∙ once 0 (suc k) d (omega arith) (omega (arith, within))))
without-at (y ∷ ys) x (suc i) d once within is =
    elim (cases_name x y) [
      | inl same ↦ absurd (false≢true (sym (once 0 (suc i) d (omega arith) (omega (arith, within))) ∙ ap (λ z. is_name z (get_or ys i d)) (sym same.0) ∙ is))
      | inr other ↦ rw other (ap (λ l. y ∷ l) (without-at ys x i d (rest-distinct y ys once) (omega (arith, within)) is))
    ]

-- a name that is not listed is none of these
unlisted-apart : (xs : List Name) (x : Name) → is_listed xs x ≡ false → (k : ℕ) (d : Name) → k < length xs → is_name (get_or xs k d) x ≡ false
unlisted-apart [] x absent k d within = absurd (omega (arith, within))
unlisted-apart (y ∷ ys) x absent zero d within = name-sym y x ∙ first (is_name x y) (is_listed ys x) absent
  where
    first : (a b : Bool) → (a || b) ≡ false → a ≡ false
    first true b h = h
    first false b h = refl
unlisted-apart (y ∷ ys) x absent (suc k) d within = unlisted-apart ys x (rest (is_name x y) (is_listed ys x) absent) k d (omega (arith, within))
  where
    rest : (a b : Bool) → (a || b) ≡ false → b ≡ false
    rest true b h = cc
    rest false b h = h

-- the names in a row, if it has some
pub row-once : (row : Option (List Name)) (others : List Name) → AreDistinct (option_map_or (λ xs. xs) row others) → IfSome row AreDistinct
row-once None others once = tt
row-once (Some xs) others once = once

-- where nothing is listed
pub once-none : (lists : ModuleId → List Name) → lists ≡ (λ m. []) → HaveOnce lists
once-none lists none m = subst (λ (l : ModuleId → List Name). AreDistinct (l m)) (sym none) (λ i j d below within. absurd (omega (arith, within)))

pub once-same : (old new : ModuleId → List Name) → new ≡ old → HaveOnce old → HaveOnce new
once-same old new same once m = subst (λ (l : ModuleId → List Name). AreDistinct (l m)) (sym same) (once m)

module _ (old new : ModuleId → List Name) (at : ModuleId) (x : Name) (once : HaveOnce old) where
  once-listed : (names : List Name) → AreDistinct names → HaveOnce (listed_as old at names)
  once-listed names distinct m = elim (cases_module at m) [ inl here ↦ rw here.1 distinct | inr other ↦ rw other (once m) ]

  -- a name goes last where it is not listed
  pub once-put : (known : Bool) → is_listed (old at) x ≡ known → (Q : Type 0) (r : Result Bool AllocError) → OnOk r (new ≡ cond known old (listed_as old at (old at ++ x ∷ []))) → OnErr r (Q × (new ≡ old)) → HaveOnce new
  once-put true is Q (Ok wrote) listed refused = once-same old new listed once
  once-put false is Q (Ok wrote) listed refused =
      once-same _ new listed (once-listed (old at ++ x ∷ []) (all_pairs_push (λ (a b : Name). is_name a b ≡ false) (old at) x (once at) (unlisted-apart (old at) x is)))
  once-put known is Q (Err e) listed refused = once-same old new refused.1 once

  -- a name that has no binding left is listed no more
  pub once-taken : (stays : Bool) → new ≡ cond stays old (listed_as old at (without_name (old at) x)) → HaveOnce new
  once-taken true listed = once-same old new listed once
  once-taken false listed =
      once-same _ new listed (once-listed (without_name (old at) x) (AllPairs-filter (λ (a b : Name). is_name a b ≡ false) (λ y. not (is_name x y)) (old at) (once at)))
