-- Which modules of a map are in the chain of another one of it, by their indices.
use Rattle.std.proofs.Common.{◌≡◌, ◌≢◌, ◌<◌, ◌≤◌, ◌++◌, ◌||◌, Bool, true, false, ℕ, zero, suc, List, [], ◌∷◌, map, length, Option, Some, None, nat_eq, slice_get, refl, sym, ap, ◌∙◌, arith, inl, inr}
use Rattle.std.specs.List.{list_any}
use Rattle.std.specs.Option.{option_map_or}
use Rattle.std.proofs.lemmas.Bool.{cases_Bool, eq-eqb, eqb-true, lt-ltb}
use Rattle.def_ids.specs.declared.ids.ModuleId.{ModuleId}
use Rattle.def_ids.specs.Ids.{is_same_module}
use Rattle.def_bindings.specs.declared.module_tree.ModuleTree.{ModuleTree}
use Rattle.def_bindings.specs.ContainingLaws.{apart_outside}
use Rattle.def_bindings.specs.ModuleTree.{chain_in}
use Rattle.def_bindings.specs.Tree.{above_of, ancestors, module_of, parent_of}
use Rattle.def_bindings.specs.TreeLaws.{chain_of-next, same_map_itself, same_module_itself}

module _ (tree : ModuleTree) (target : ℕ) where
  abbrev own : ℕ → ModuleId
  own i = module_of tree.map i

  abbrev is_there : List ModuleId → Bool
  is_there ms = list_any (is_same_module (own target)) ms

  -- the modules that contain the block are of other maps
  none-containing : is_there tree.containing ≡ false
  none-containing =
      elim (cases_Bool (is_there tree.containing)) [
        | inl e ↦ let wrong : true ≡ false = sym (same_map_itself tree.map) ∙ apart_outside tree.map tree.containing tree.apart (own target) e in cc
        | inr e ↦ e
      ]

  not-same : (i : ℕ) → (target ≡ i → ⊥) → is_same_module (own target) (own i) ≡ false
  not-same i apart =
      elim (cases_Bool (nat_eq target i)) [
        | inl e ↦ absurd (apart (eqb-true target i e))
        | inr e ↦ rw (same_map_itself tree.map, e) refl
      ]

  none-above : (k i : ℕ) (o : Option ℕ) → parent_of tree.parents i ≡ o → i < target
      → ((p : ℕ) → p < target → is_there (map (module_of tree.map) (ancestors k tree.parents p) ++ tree.containing) ≡ false)
      → is_there (map (module_of tree.map) (option_map_or (ancestors k tree.parents) o []) ++ tree.containing) ≡ false
  none-above k i None e less below = none-containing
  none-above k i (Some p) e less below = let h = tree.lower i p e in below p (omega arith)

  -- a module that has a lower index than another one, and those above it, are not that one
  none-below : (k i : ℕ) → i < target → is_there (map (module_of tree.map) (ancestors k tree.parents i) ++ tree.containing) ≡ false
  none-below zero i less =
      ap (λ b. b || is_there tree.containing) (not-same i (λ e. omega (arith, less, e))) ∙ none-containing
  none-below (suc k) i less =
      ap (λ b. b || is_there (map (module_of tree.map) (option_map_or (ancestors k tree.parents) (parent_of tree.parents i) []) ++ tree.containing)) (not-same i (λ e. omega (arith, less, e)))
      ∙ none-above k i (parent_of tree.parents i) refl less (none-below k)

  own-chain : (i : ℕ) → i < length tree.parents → chain_in tree (own i) ≡ map (module_of tree.map) (ancestors i tree.parents i) ++ tree.containing
  own-chain i within = rw (same_map_itself tree.map, lt-ltb i (length tree.parents) within) refl

  own-above : (i : ℕ) → i < length tree.parents
      → above_of tree.map tree.parents tree.containing (own i) ≡ option_map_or (λ p. Some (module_of tree.map p)) (parent_of tree.parents i) (slice_get tree.containing 0)
  own-above i within = rw (same_map_itself tree.map, lt-ltb i (length tree.parents) within) refl

  -- where a parent follows, the chain goes on from there
  pub goes-on : (i p : ℕ) → i < length tree.parents → target < i → parent_of tree.parents i ≡ Some p
      → is_there (chain_in tree (own p)) ≡ is_there (chain_in tree (own i))
  goes-on i p within past is =
      sym (
      ap is_there (chain_of-next tree.map tree.parents tree.containing tree.lower tree.apart (own i))
      ∙ ap (λ b. b || is_there (option_map_or (chain_in tree) (above_of tree.map tree.parents tree.containing (own i)) [])) (not-same i (λ e. omega (arith, past, e)))
      ∙ ap (λ o. is_there (option_map_or (chain_in tree) o [])) (own-above i within)
      ∙ ap (λ o. is_there (option_map_or (chain_in tree) (option_map_or (λ q. Some (module_of tree.map q)) o (slice_get tree.containing 0)) [])) is)

  -- where none follows, the module is not above
  pub ends : (i : ℕ) → i < length tree.parents → target < i → parent_of tree.parents i ≡ None → is_there (chain_in tree (own i)) ≡ false
  ends zero within past is = let wrong : ⊥ = omega (arith, past) in absurd wrong
  ends (suc k) within past is =
      ap is_there (own-chain (suc k) within)
      ∙ ap (λ o. is_there (map (module_of tree.map) (suc k ∷ option_map_or (ancestors k tree.parents) o []) ++ tree.containing)) is
      ∙ ap (λ b. b || is_there tree.containing) (not-same (suc k) (λ e. omega (arith, past, e)))
      ∙ none-containing

  here : (i : ℕ) → i ≡ target → is_there (chain_in tree (own i)) ≡ true
  here i is =
      ap is_there (chain_of-next tree.map tree.parents tree.containing tree.lower tree.apart (own i))
      ∙ ap (λ b. b || is_there (option_map_or (chain_in tree) (above_of tree.map tree.parents tree.containing (own i)) []))
      (ap (λ n. is_same_module (own target) (own n)) is ∙ same_module_itself (own target))

  -- where the module is reached or passed, it is in the chain if it is reached
  pub decides : (i : ℕ) → i < length tree.parents → i ≤ target → nat_eq i target ≡ is_there (chain_in tree (own i))
  decides i within reached =
      elim (cases_Bool (nat_eq i target)) [
        | inl e ↦ e ∙ sym (here i (eqb-true i target e))
        | inr e ↦
            let apart : i ≢ target = λ same. (let equal : nat_eq i target ≡ true = eq-eqb i target same in cc) in
            e ∙ sym (ap is_there (own-chain i within) ∙ none-below i i (omega (arith, apart, reached)))
      ]
