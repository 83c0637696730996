-- Derives that are deferred: where they wait, and what they weigh.
use Rattle.std.proofs.Common.{◌≡◌, ◌⊎◌, inl, inr, ℕ, suc, ◌+◌, ◌<◌, Bool, true, false, cond, List, [], ◌∷◌, ◌++◌, Contains, Option, Some, None, length, get_or, refl, sym, ap, ◌∙◌, subst, arith}
use Rattle.std.specs.Prelude.{map, position, sum_by, swap_remove, unwrap_or}
use Rattle.std.specs.Map.{keys_of, lookup, values_of}
use Rattle.std.specs.Option.{option_map_or}
use Rattle.std.proofs.lemmas.List.{get_or-map, get_or_default}
use Rattle.std.proofs.lemmas.Option.{slice_get-get_or}
use Rattle.std.proofs.lemmas.List.Elements.{Contains-push_cases}
use Rattle.std.proofs.lemmas.List.Sorted.{Contains-permutation, IsPermutation-swap_remove, IsPermutation-sym}
use Rattle.std.proofs.lemmas.List.Sums.{sum_by-append, sum_by-cons, sum_by-swap_remove}
use Rattle.indexmap.proofs.MapLemmas.{Found-position, Missing-position, swap_remove-default}
use Rattle.def_globs.proofs.ListLaws.{first_in, in_cases, later_in, none_in, only_in}
use Rattle.indexmap.specs.IndexMap.{insert_entry, swap_remove_entry}
use Rattle.tree_ids.specs.declared.ids.FileAstId.{FileAstId}
use Rattle.tree_ids.specs.declared.ids.InFile.{InFile}
use Rattle.def_ids.specs.declared.ids.ModuleId.{ModuleId}
use Rattle.def_modules.specs.Equality.{position_eq}
use Rattle.def_rules.specs.declared.deferred.DeferredDerive.{DeferredDerive}
use Rattle.def_rules.specs.Deferred.{deferred_at, deferred_expansion, deferring, none_deferred}
use Rattle.def_rules.specs.State.{State}
use Rattle.def_rules.specs.Waiting.{Deferrals, Expansion}
use Rattle.def_laws.specs.Depths.{DefersIn, deferred_work, derives_work, expansion_work}

module _ (key : InFile FileAstId) where
  abbrev test : InFile FileAstId → Bool
  test = position_eq key

  -- those that are deferred at the position
  abbrev here : Deferrals → List DeferredDerive
  here es = unwrap_or (lookup test es) []

  -- each is deferred somewhere
  here_defers : (es : Deferrals) (d : DeferredDerive) → Contains (here es) d → DefersIn es d.module_id
  here_defers [] d h = absurd (none_in d h)
  here_defers (e ∷ es) d h = by (λ later. here_defers es d later) (test e.0) h
    where
      by : (Contains (here es) d → DefersIn es d.module_id) → (b : Bool) → Contains (unwrap_or (cond b (Some e.1) (lookup test es)) []) d → DefersIn (e ∷ es) d.module_id
      by rest true h = (e, d, first_in e es, h, refl)
      by rest false h = let found = rest h in (found.0, found.1, later_in e es found.0 found.2, found.3, found.4)

  -- Where one more is deferred

  -- what is there after was there before, or has the new list
  inserted_from : (es : Deferrals) (v : List DeferredDerive) (x : InFile FileAstId × List DeferredDerive) → Contains (insert_entry position_eq es key v) x → Contains es x ⊎ (x.1 ≡ v)
  inserted_from [] v x h = inr (ap (λ (y : InFile FileAstId × List DeferredDerive). y.1) (only_in (key, v) x h))
  inserted_from (e ∷ es) v x h = by (λ later. inserted_from es v x later) (test e.0) h
    where
      by : (Contains (insert_entry position_eq es key v) x → Contains es x ⊎ (x.1 ≡ v)) → (b : Bool) → Contains (cond b ((e.0, v) ∷ es) (e ∷ insert_entry position_eq es key v)) x → Contains (e ∷ es) x ⊎ (x.1 ≡ v)
      by rest true h = elim (in_cases (e.0, v) es x h) [ inl first ↦ inr (ap (λ (y : InFile FileAstId × List DeferredDerive). y.1) first) | inr later ↦ inl (later_in e es x later) ]
      by rest false h = elim (in_cases e (insert_entry position_eq es key v) x h) [
        | inl first ↦ inl (subst (λ y. Contains (e ∷ es) y) (sym first) (first_in e es))
        | inr later ↦ elim (rest later) [ inl old ↦ inl (later_in e es x old) | inr new ↦ inr new ]
      ]

  -- one more weighs what it weighs
  inserted_work : (es : Deferrals) (v : List DeferredDerive) → deferred_work (insert_entry position_eq es key v) + derives_work (here es) ≡ deferred_work es + derives_work v
  inserted_work [] v = let one = sum_by-cons (λ (e : InFile FileAstId × List DeferredDerive). derives_work e.1) (key, v) [] in omega (arith, one)
  inserted_work (e ∷ es) v = by (inserted_work es v) (test e.0)
    where
      of_entry : InFile FileAstId × List DeferredDerive → ℕ
      of_entry = λ x. derives_work x.1

      by : deferred_work (insert_entry position_eq es key v) + derives_work (here es) ≡ deferred_work es + derives_work v
          → (b : Bool) → deferred_work (cond b ((e.0, v) ∷ es) (e ∷ insert_entry position_eq es key v)) + derives_work (unwrap_or (cond b (Some e.1) (lookup test es)) []) ≡ deferred_work (e ∷ es) + derives_work v
      by rest true = let new = sum_by-cons of_entry (e.0, v) es in let old = sum_by-cons of_entry e es in omega (arith, new, old)
      by rest false =
          let new = sum_by-cons of_entry e (insert_entry position_eq es key v) in
          let old = sum_by-cons of_entry e es in
          omega (arith, new, old, rest)

  -- Where none is deferred any longer

  abbrev of_entry : InFile FileAstId × List DeferredDerive → ℕ
  of_entry e = derives_work e.1

  values_long : (es : Deferrals) → length (values_of es) ≡ length es
  values_long [] = refl
  values_long (e ∷ es) = ap suc (values_long es)

  -- the entry at the index of the position is that of its derives
  entry_here : (es : Deferrals) (i : ℕ) (x : InFile FileAstId × List DeferredDerive) → position test (keys_of es) ≡ Some i → (get_or es i x).1 ≡ here es
  entry_here es i x is =
      let found = Found-position test es i is in
      let within : i < length (values_of es) = omega (arith, found.within, values_long es) in
      let value : lookup test es ≡ Some (get_or (values_of es) i x.1) = found.value ∙ slice_get-get_or (values_of es) i x.1 within in
      sym (ap (λ o. unwrap_or o []) value ∙ get_or-map (λ (e : InFile FileAstId × List DeferredDerive). e.1) es i x x.1 found.within)

  -- what is left was there before
  removed_from : (es : Deferrals) (x : InFile FileAstId × List DeferredDerive) → Contains (swap_remove_entry test es) x → Contains es x
  removed_from [] x h = h
  removed_from (e ∷ es) x h = by (position test (keys_of (e ∷ es))) refl h
    where
      by : (o : Option ℕ) → position test (keys_of (e ∷ es)) ≡ o → Contains (option_map_or (λ i. swap_remove (e ∷ es) i e) o (e ∷ es)) x → Contains (e ∷ es) x
      by None is h = h
      by (Some i) is h =
          let within = (Found-position test (e ∷ es) i is).within in
          let gone : InFile FileAstId × List DeferredDerive = get_or (e ∷ es) i e in
          let same : swap_remove (e ∷ es) i e ≡ swap_remove (e ∷ es) i gone = swap_remove-default (e ∷ es) i e gone (omega arith) in
          let all = IsPermutation-swap_remove (e ∷ es) i gone within (get_or_default (e ∷ es) i e gone within) in
          Contains-permutation (gone ∷ swap_remove (e ∷ es) i gone) (e ∷ es) x (IsPermutation-sym _ _ all) (later_in gone (swap_remove (e ∷ es) i gone) x (subst (λ l. Contains l x) same h))

  -- and weighs as much less as what is not
  removed_work : (es : Deferrals) → deferred_work (swap_remove_entry test es) + derives_work (here es) ≡ deferred_work es
  removed_work [] = refl
  removed_work (e ∷ es) = by (position test (keys_of (e ∷ es))) refl
    where
      by : (o : Option ℕ) → position test (keys_of (e ∷ es)) ≡ o → deferred_work (option_map_or (λ i. swap_remove (e ∷ es) i e) o (e ∷ es)) + derives_work (here (e ∷ es)) ≡ deferred_work (e ∷ es)
      by None is = let none = ap (λ o. derives_work (unwrap_or o [])) (Missing-position test (e ∷ es) is).value in omega (arith, none)
      by (Some i) is =
          let within = (Found-position test (e ∷ es) i is).within in
          let whole = sum_by-swap_remove of_entry (e ∷ es) i e within in
          let gone = ap derives_work (entry_here (e ∷ es) i e is) in
          omega (arith, whole, gone)

-- One derive more

-- it waits in its module
pub deferring_in : (s : State) (position : InFile FileAstId) (d : DeferredDerive) (at : ModuleId) → DefersIn (deferring s position d).deferred at → DefersIn s.deferred at ⊎ (at ≡ d.module_id)
deferring_in s position d at (e, x, there, among, is) =
    elim (inserted_from position s.deferred (deferred_at s position ++ d ∷ []) e there) [
      | inl old ↦ inl (e, x, old, among, is)
      | inr new ↦ elim (Contains-push_cases (deferred_at s position) d x (subst (λ l. Contains l x) new among)) [
        | inl old ↦ inl (subst (DefersIn s.deferred) is (here_defers position s.deferred x old))
        | inr same ↦ inr (sym is ∙ ap (λ (y : DeferredDerive). y.module_id) (sym same))
      ]
    ]

-- and weighs as much as its expansion
pub deferring_work : (s : State) (position : InFile FileAstId) (d : DeferredDerive) → deferred_work (deferring s position d).deferred ≡ deferred_work s.deferred + expansion_work d.depth
deferring_work s position d =
    let of_derive : DeferredDerive → ℕ = λ x. expansion_work x.depth in
    let whole = inserted_work position s.deferred (deferred_at s position ++ d ∷ []) in
    let more = sum_by-append of_derive (deferred_at s position) (d ∷ []) in
    let one = sum_by-cons of_derive d [] in
    omega (arith, whole, more, one)

-- Those of a position no longer

-- what is still deferred was so before
pub none_in_more : (s : State) (position : InFile FileAstId) (at : ModuleId) → DefersIn (none_deferred s position).deferred at → DefersIn s.deferred at
none_in_more s position at (e, x, there, among, is) = (e, x, removed_from position s.deferred e there, among, is)

-- what they weighed is gone
pub none_work : (s : State) (position : InFile FileAstId) → deferred_work (none_deferred s position).deferred + derives_work (deferred_at s position) ≡ deferred_work s.deferred
none_work s position = removed_work position s.deferred

-- Those of a position as expansions

-- each waits in its module
pub expanded_in : (derives : List DeferredDerive) (e : Expansion) → Contains (map deferred_expansion derives) e → (d : DeferredDerive) × Contains derives d × (d.module_id ≡ e.scope)
expanded_in [] e h = absurd (none_in e h)
expanded_in (d ∷ derives) e h =
    elim (in_cases (deferred_expansion d) (map deferred_expansion derives) e h) [
      | inl first ↦ (d, first_in d derives, sym (ap (λ (x : Expansion). x.scope) first))
      | inr later ↦ let found = expanded_in derives e later in (found.0, later_in d derives found.0 found.1, found.2)
    ]

-- one of them waited where it was deferred
pub expanded_defers : (s : State) (position : InFile FileAstId) (e : Expansion) → Contains (map deferred_expansion (deferred_at s position)) e → DefersIn s.deferred e.scope
expanded_defers s position e h =
    let found = expanded_in (deferred_at s position) e h in
    subst (DefersIn s.deferred) found.2 (here_defers position s.deferred found.0 found.1)

-- they weigh as much as before
pub expanded_work : (derives : List DeferredDerive) → sum_by (λ (e : Expansion). expansion_work e.depth) (map deferred_expansion derives) ≡ derives_work derives
expanded_work [] = refl
expanded_work (d ∷ derives) =
    let new = sum_by-cons (λ (e : Expansion). expansion_work e.depth) (deferred_expansion d) (map deferred_expansion derives) in
    let old = sum_by-cons (λ (x : DeferredDerive). expansion_work x.depth) d derives in
    let rest = expanded_work derives in
    omega (arith, new, old, rest)
