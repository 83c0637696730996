-- One definition more that a glob was recorded with.
use Rattle.std.proofs.Common.{◌≡◌, ◌<◌, ◌≤◌, ℕ, inl, inr, ◌+◌, drop, get_or, length, true, false, cond, List, [], ◌∷◌, ◌++◌, Option, Some, None, refl, sym, ap, ◌∙◌}
use Rattle.std.specs.Prelude.{unwrap_or}
use Rattle.std.specs.Prelude.{◌||◌}
use Rattle.std.proofs.lemmas.Bool.{cases_Bool}
use Rattle.std.proofs.lemmas.List.{at_drop_all, at_drop_more}
use Rattle.def_ids.specs.declared.ids.Def.{Def}
use Rattle.def_ids.specs.declared.ids.GlobId.{GlobId}
use Rattle.def_ids.specs.Equality.{def_eq, glob_eq}
use Rattle.def_bindings.specs.IdLaws.{glob-eq}
use Rattle.def_modules.specs.KeyedLists.{PushesUnder}
use Rattle.def_rules.specs.Globs.{Targets, is_among, with_def, with_target}

module _ (glob : GlobId) (d : Def) (old : Targets) where
  with_known : (there : Option (List Def)) → is_among d (unwrap_or there []) ≡ true → there ≡ Some (with_def d (unwrap_or there []))
  with_known None h = absurd cc
  with_known (Some defs) h = rw h refl

  -- a definition that a glob was recorded with before
  pub target_known : is_among d (unwrap_or (old glob) []) ≡ true → old ≡ with_target glob d old
  target_known h = λ i g. one g i
    where
      one : (g : GlobId) → old g ≡ with_target glob d old g
      one g = elim (cases_Bool (glob_eq glob g)) [
        | inl same ↦ rw same (ap old (sym (glob-eq glob g same)) ∙ with_known (old glob) h)
        | inr other ↦ rw other refl
      ]

  -- a new one
  pub target_new : (new : Targets) → is_among d (unwrap_or (old glob) []) ≡ false → PushesUnder glob_eq old new glob d → new ≡ with_target glob d old
  target_new new h pushed = λ i g. one g i
    where
      last : with_def d (unwrap_or (old glob) []) ≡ unwrap_or (old glob) [] ++ d ∷ []
      last = rw h refl

      one : (g : GlobId) → new g ≡ with_target glob d old g
      one g = pushed g ∙ ap (λ l. cond (glob_eq glob g) (Some l) (old g)) (sym last)

-- a search for a definition in a list, from an index on
module _ (d : Def) (defs : List Def) (i : ℕ) where
  -- it is the one at the index
  pub found_at : (other : Def) → i < length defs → def_eq (get_or defs i other) d ≡ true → is_among d (drop i defs) ≡ is_among d defs → true ≡ is_among d defs
  found_at other within same so_far = sym (ap (λ b. b || is_among d (drop (i + 1) defs)) same) ∙ sym (at_drop_more (is_among d) defs i other within) ∙ so_far

  -- it is another one
  pub passed_at : (other : Def) → i < length defs → def_eq (get_or defs i other) d ≡ false → is_among d (drop i defs) ≡ is_among d defs
      → is_among d (drop (i + 1) defs) ≡ is_among d defs
  passed_at other within apart so_far = sym (ap (λ b. b || is_among d (drop (i + 1) defs)) apart) ∙ sym (at_drop_more (is_among d) defs i other within) ∙ so_far

  -- none is left
  pub none_from : length defs ≤ i → is_among d (drop i defs) ≡ is_among d defs → false ≡ is_among d defs
  none_from past so_far = sym (at_drop_all (is_among d) defs i past) ∙ so_far
