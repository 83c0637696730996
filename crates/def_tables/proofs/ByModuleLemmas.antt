-- What is kept by module, after a change at one module.
use Rattle.std.proofs.Common.{◌≡◌, Bool, true, false, cond, Option, Some, None, List, [], refl, sym, ap, ◌∙◌, inl, inr}
use Rattle.std.specs.Option.{option_map_or}
use Rattle.def_ids.specs.declared.ids.ModuleId.{ModuleId}
use Rattle.def_ids.specs.Ids.{is_same_module}
use Rattle.def_bindings.specs.Content.{listed_as, lists_by}
use Rattle.def_bindings.specs.IdLaws.{cases_module}

cond-ap : {A B : Type 0} (f : A → B) (b : Bool) (x y : A) → f (cond b x y) ≡ cond b (f x) (f y)
cond-ap f true x y = refl
cond-ap f false x y = refl

-- the rows are the old ones but for one
abbrev pub ChangesRow : {R : Type 0} → (ModuleId → Option R) → (ModuleId → Option R) → ModuleId → R → Type 0
ChangesRow old new at row = (q : ModuleId) → new q ≡ cond (is_same_module at q) (Some row) (old q)

module _ {R : Type 0} (old new : ModuleId → Option R) (at : ModuleId) (was : Option R) (row : R) (before : old at ≡ was) (after : ChangesRow old new at row) where
  -- what one row shows
  pub shown : {A : Type 0} (f : Option R → A) (q : ModuleId) → f (new q) ≡ cond (is_same_module at q) (f (Some row)) (f (old q))
  shown f q = ap f (after q) ∙ cond-ap f (is_same_module at q) (Some row) (old q)

  pub kept : {A : Type 0} (f : Option R → A) → f (Some row) ≡ f was → (q : ModuleId) → f (new q) ≡ f (old q)
  kept f same q =
      shown f q ∙ elim (cases_module at q) [
        | inl e ↦ rw e.1 (same ∙ ap f (sym before) ∙ ap (λ m. f (old m)) e.0)
        | inr e ↦ rw e refl
      ]

  pub listed : {A : Type 0} (f : Option R → A) (a : A → A) → f (Some row) ≡ a (f was) → (q : ModuleId) → f (new q) ≡ listed_as (λ m. f (old m)) at (a (f (old at))) q
  listed f a is q = shown f q ∙ ap (λ z. cond (is_same_module at q) z (f (old q))) (is ∙ ap (λ o. a (f o)) (sym before))

module _ {R A : Type 0} (list : R → List A) (old new : ModuleId → Option R) (at : ModuleId) where
  -- a new row is empty
  pub lists-reserve : (row : R) → old at ≡ None → ChangesRow old new at row → list row ≡ [] → lists_by new list ≡ lists_by old list
  lists-reserve row before after is = λ i q. kept old new at None row before after (λ o. option_map_or list o []) is q i

  pub lists-same : (was row : R) → old at ≡ Some was → ChangesRow old new at row → list row ≡ list was → lists_by new list ≡ lists_by old list
  lists-same was row before after is = λ i q. kept old new at (Some was) row before after (λ o. option_map_or list o []) is q i

  pub lists-changed : (f : List A → List A) (was row : R) → old at ≡ Some was → ChangesRow old new at row → list row ≡ f (list was)
      → lists_by new list ≡ listed_as (lists_by old list) at (f (lists_by old list at))
  lists-changed f was row before after is = λ i q. listed old new at (Some was) row before after (λ o. option_map_or list o []) f is q i

  -- a list is begun
  pub lists-begun : (row : R) → old at ≡ None → ChangesRow old new at row → lists_by new list ≡ listed_as (lists_by old list) at (list row)
  lists-begun row before after = λ i q. listed old new at None row before after (λ o. option_map_or list o []) (λ before. list row) refl q i

-- a list written as it was
pub listed_as-same : {A : Type 0} (f : ModuleId → A) (at : ModuleId) → listed_as f at (f at) ≡ f
listed_as-same f at = λ i q. same q i
  where
    same : (q : ModuleId) → listed_as f at (f at) q ≡ f q
    same q = elim (cases_module at q) [ inl e ↦ rw e.1 (ap f e.0) | inr e ↦ rw e refl ]
