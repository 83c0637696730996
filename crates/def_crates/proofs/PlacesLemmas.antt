-- The last dependency of each name decides, at whatever place its name stands.
use Rattle.std.proofs.Math.Seq.{drop-cons}
use Rattle.std.proofs.Common.{◌≡◌, ◌<◌, ◌+◌, ℕ, suc, drop, get_or, length, add-one, Bool, true, false, cond, List, [], ◌∷◌, Option, refl, sym, ap, ◌∙◌, ◌⊎◌, inl, inr}
use Rattle.std.proofs.lemmas.Bool.{cases_Bool}
use Rattle.tree_ids.specs.declared.name.Name.{Name}
use Rattle.def_bindings.specs.Content.{is_name}
use Rattle.def_bindings.specs.IdLaws.{cases_name}
use Rattle.def_oracle.specs.declared.source_database.Dependency.{Dependency}
use Rattle.def_map.specs.Oracle.{Oracle}
use Rattle.def_modules.specs.MapState.{CrateState}
use Rattle.def_modules.specs.MapView.{ExternCrateEntry, LocalView}
use Rattle.def_rules.specs.Crates.{after_dep, after_deps, named_entry}
use Rattle.def_crates.specs.Places.{with_last, with_lasts}

-- the next dependency is placed, and the rest is left
pub placed_next : (last : LocalView) (deps : List Dependency) (i : ℕ) (x d : Dependency) (before new start : LocalView) → i < length deps → x ≡ get_or deps i d
    → new ≡ with_last last x before → with_lasts last (drop i deps) before ≡ start → with_lasts last (drop (i + 1) deps) new ≡ start
placed_next last deps i x d before new start within item placed so_far =
    ap (λ j. with_lasts last (drop j deps) new) (add-one i)
    ∙ ap (with_lasts last (drop (suc i) deps)) placed
    ∙ ap (λ y. with_lasts last (drop (suc i) deps) (with_last last y before)) item
    ∙ ap (λ l. with_lasts last l before) (sym (drop-cons deps i d within))
    ∙ so_far

module _ (oracle : Oracle) (c : CrateState) where
  -- what a name leads to after one dependency
  abbrev entry_after : Dependency → Name → Option ExternCrateEntry → Bool → Option ExternCrateEntry
  entry_after dep n before named = cond named (named_entry oracle c dep) before

  module _ (n : Name) where
    -- names that agree at one name still do
    agree : (deps : List Dependency) (a b : LocalView) → a.extern_prelude n ≡ b.extern_prelude n
        → (after_deps oracle c deps a).extern_prelude n ≡ (after_deps oracle c deps b).extern_prelude n
    agree [] a b same = same
    agree (dep ∷ deps) a b same =
        agree deps (after_dep oracle c dep a) (after_dep oracle c dep b) (ap (λ o. entry_after dep n o (is_name dep.name n)) same)

    -- a name of the dependency leads to the same, whatever it led to
    replaced : (dep : Dependency) (a b : LocalView) → is_name dep.name n ≡ true
        → (after_dep oracle c dep a).extern_prelude n ≡ (after_dep oracle c dep b).extern_prelude n
    replaced dep a b holds = ap (entry_after dep n (a.extern_prelude n)) holds ∙ sym (ap (entry_after dep n (b.extern_prelude n)) holds)

    -- what dependencies lead to stays when they are named again
    again : (deps : List Dependency) (a b : LocalView) → a.extern_prelude n ≡ (after_deps oracle c deps b).extern_prelude n
        → (after_deps oracle c deps a).extern_prelude n ≡ (after_deps oracle c deps b).extern_prelude n
    again [] a b is = is
    again (dep ∷ deps) a b is = by (cases_Bool (is_name dep.name n)) (λ h. again deps (after_dep oracle c dep a) (after_dep oracle c dep b) h)
      where
        by : (is_name dep.name n ≡ true) ⊎ (is_name dep.name n ≡ false)
            → ((after_dep oracle c dep a).extern_prelude n ≡ (after_deps oracle c (dep ∷ deps) b).extern_prelude n
            → (after_deps oracle c (dep ∷ deps) a).extern_prelude n ≡ (after_deps oracle c (dep ∷ deps) b).extern_prelude n)
            → (after_deps oracle c (dep ∷ deps) a).extern_prelude n ≡ (after_deps oracle c (dep ∷ deps) b).extern_prelude n
        by (inl holds) rest = agree deps (after_dep oracle c dep a) (after_dep oracle c dep b) (replaced dep a b holds)
        by (inr differs) rest = rest (ap (entry_after dep n (a.extern_prelude n)) differs ∙ is)

    decided : (deps : List Dependency) (last local x : LocalView) → last.extern_prelude n ≡ (after_deps oracle c deps x).extern_prelude n
        → (with_lasts last deps local).extern_prelude n ≡ (after_deps oracle c deps local).extern_prelude n
    decided [] last local x is = refl
    decided (dep ∷ deps) last local x is =
        decided deps last (with_last last dep local) (after_dep oracle c dep x) is ∙ by (cases_name dep.name n)
      where
        by : ((dep.name ≡ n) × (is_name dep.name n ≡ true)) ⊎ (is_name dep.name n ≡ false)
            → (after_deps oracle c deps (with_last last dep local)).extern_prelude n ≡ (after_deps oracle c (dep ∷ deps) local).extern_prelude n
        by (inl (same, holds)) = again deps (with_last last dep local) (after_dep oracle c dep local)
            (ap (λ b. cond b (last.extern_prelude dep.name) (local.extern_prelude n)) holds
            ∙ ap last.extern_prelude same
            ∙ is
            ∙ agree deps (after_dep oracle c dep x) (after_dep oracle c dep local) (replaced dep x local holds))
        by (inr differs) = agree deps (with_last last dep local) (after_dep oracle c dep local)
            (ap (λ b. cond b (last.extern_prelude dep.name) (local.extern_prelude n)) differs ∙ sym (ap (entry_after dep n (local.extern_prelude n)) differs))

  -- names placed as the last of each has them are the names in order
  pub last_decides : (deps : List Dependency) (first local : LocalView) → with_lasts (after_deps oracle c deps first) deps local ≡ after_deps oracle c deps local
  last_decides deps first local = λ i. record { extern_prelude = λ n. decided n deps (after_deps oracle c deps first) local first refl i }
