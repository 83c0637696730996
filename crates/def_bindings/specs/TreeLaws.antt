-- The chains of a map's modules are chains, and none is longer than the modules and what contains them.
pub use Rattle.def_bindings.specs.IdLaws.{same_map_itself, same_map_equal, same_module_itself, same_module_equal}
use Rattle.std.specs.Prelude.{◌≡◌, ◌<◌, ◌≤◌, ◌+◌, ◌++◌, true, false, ℕ, zero, suc, List, [], ◌∷◌, map, length, Option, Some, None, nat_lt, slice_get, refl}
use Rattle.std.specs.List.{list_any}
use Rattle.std.specs.Option.{option_map_or}
use Rattle.std.proofs.Common.{sym, ◌∙◌, ap, arith, inl, inr, ◌⊎◌, length-append}
use Rattle.std.proofs.lemmas.List.{length-map}
use Rattle.std.proofs.lemmas.Bool.{cases_Bool, and_parts, ltb-true, lt-ltb, and_left}
use Rattle.def_ids.specs.declared.ids.MapId.{MapId}
use Rattle.def_ids.specs.declared.ids.ModuleId.{ModuleId}
use Rattle.def_ids.specs.Ids.{is_same_map, is_same_module}
use Rattle.def_bindings.specs.Chains.{IsChained, AreChains}
use Rattle.def_bindings.specs.Tree.{parent_of, ancestors, module_of, from_module, after_module, above_of, is_own, chain_of, AreParentsLower, are_apart, next_of}
use Rattle.def_bindings.specs.ContainingLaws.{IsChained-agree, from_module-chained, apart_outside, from_module-end, from_module-begins, length-from_module, found_at, after_index-module, after_index-at}

module _ (own : MapId) (parents : List (Option ℕ)) (containing : List ModuleId) (lower : AreParentsLower parents) (apart : are_apart own containing ≡ true) where
  chain : ModuleId → List ModuleId
  chain m = chain_of own parents containing m

  more_steps_at : (k j i : ℕ) (o : Option ℕ) → parent_of parents i ≡ o → i ≤ suc k → i ≤ suc j → ((p : ℕ) → p ≤ k → p ≤ j → ancestors k parents p ≡ ancestors j parents p) → option_map_or (ancestors k parents) o [] ≡ option_map_or (ancestors j parents) o []
  more_steps_at k j i None e a b steps = refl
  more_steps_at k j i (Some p) e a b steps = let l = lower i p e in steps p (omega arith) (omega arith)

  no_parent_at : (j i : ℕ) (o : Option ℕ) → parent_of parents i ≡ o → i ≤ 0 → option_map_or (ancestors j parents) o [] ≡ []
  no_parent_at j i None e a = refl
  no_parent_at j i (Some p) e a = let l = lower i p e in let none : ⊥ = omega arith in absurd none

  -- with enough steps, more change nothing
  more_steps : (k j i : ℕ) → i ≤ k → i ≤ j → ancestors k parents i ≡ ancestors j parents i
  more_steps zero zero i a b = refl
  more_steps zero (suc j) i a b = ap (λ l. i ∷ l) (sym (no_parent_at j i _ refl a))
  more_steps (suc k) zero i a b = ap (λ l. i ∷ l) (no_parent_at k i _ refl b)
  more_steps (suc k) (suc j) i a b = ap (λ l. i ∷ l) (more_steps_at k j i _ refl a b (more_steps k j))

  chain-own : (i : ℕ) → i < length parents → chain (module_of own i) ≡ map (module_of own) (ancestors i parents i) ++ containing
  unfolding chain
  chain-own i l = rw (same_map_itself own, lt-ltb i (length parents) l)

  chain-other : (m : ModuleId) → is_own own parents m ≡ false → chain m ≡ from_module containing m
  unfolding chain
  chain-other m e = rw e

  chain-containing : (x : ModuleId) → list_any (is_same_module x) containing ≡ true → chain x ≡ from_module containing x
  chain-containing x found = chain-other x (and_left _ _ (apart_outside own containing apart x found))

  containing-chained : IsChained chain containing
  containing-chained = IsChained-agree (from_module containing) chain containing (λ x found. sym (chain-containing x found)) (from_module-chained own containing apart)

  own-chained-parent : (k i : ℕ) (o : Option ℕ) → parent_of parents i ≡ o → i ≤ suc k → i < length parents → ((p : ℕ) → p ≤ k → p < length parents → IsChained chain (map (module_of own) (ancestors k parents p) ++ containing)) → IsChained chain (map (module_of own) (option_map_or (ancestors k parents) o []) ++ containing)
  own-chained-parent k i None e a l below = containing-chained
  own-chained-parent k i (Some p) e a l below = let h = lower i p e in below p (omega arith) (omega arith)

  own-chained : (k i : ℕ) → i ≤ k → i < length parents → IsChained chain (map (module_of own) (ancestors k parents i) ++ containing)
  own-chained zero i a l = (chain-own i l ∙ ap (λ xs. map (module_of own) xs ++ containing) (more_steps i 0 i (omega arith) a), containing-chained)
  own-chained (suc k) i a l = (
    chain-own i l ∙ ap (λ xs. map (module_of own) xs ++ containing) (more_steps i (suc k) i (omega arith) a),
    own-chained-parent k i _ refl a l (own-chained k),
  )

  own_module : (m : ModuleId) → is_own own parents m ≡ true → (m ≡ module_of own m.index) × (m.index < length parents)
  own_module m e =
      let p = and_parts (is_same_map m.map own) (nat_lt m.index (length parents)) e in
      (ap (λ n. module_of n m.index) (same_map_equal m.map own p.0), ltb-true m.index (length parents) p.1)

  chain-begins-own : (k i : ℕ) → (rest : List ModuleId) × (map (module_of own) (ancestors k parents i) ++ containing ≡ module_of own i ∷ rest)
  chain-begins-own zero i = (_, refl)
  chain-begins-own (suc k) i = (_, refl)

  chain-begins : (m : ModuleId) → (rest : List ModuleId) × (chain m ≡ m ∷ rest)
  chain-begins m =
      elim (cases_Bool (is_own own parents m)) [
        | inl e ↦
            let o = own_module m e in
            let t = chain-begins-own m.index m.index in
            (t.0, ap chain o.0 ∙ chain-own m.index o.1 ∙ t.1 ∙ ap (λ x. x ∷ t.0) (sym o.0))
        | inr e ↦ let t = from_module-begins containing m in (t.0, chain-other m e ∙ t.1)
      ]

  chain-chained : (m : ModuleId) → IsChained chain (chain m)
  chain-chained m =
      elim (cases_Bool (is_own own parents m)) [
        | inl e ↦
            let o = own_module m e in
            rw (o.0, chain-own m.index o.1) (own-chained m.index m.index (omega arith) o.1)
        | inr e ↦ elim (from_module-end chain containing m containing-chained) [
          | inl h ↦ rw (chain-other m e) h
          | inr alone ↦ let c : chain m ≡ m ∷ [] = chain-other m e ∙ alone in rw c (c, tt)
        ]
      ]

  -- the chains of a map's modules are chains
  pub are_chains : AreChains is_same_module (λ m. chain_of own parents containing m)
  unfolding chain
  are_chains = record { same_itself = same_module_itself; same_equal = same_module_equal; begins = chain-begins; chained = chain-chained }

  length-ancestors-parent : (k : ℕ) (o : Option ℕ) → ((p : ℕ) → length (ancestors k parents p) ≤ suc k) → length (option_map_or (ancestors k parents) o []) ≤ suc k
  length-ancestors-parent k None h = omega arith
  length-ancestors-parent k (Some p) h = h p

  length-ancestors : (k i : ℕ) → length (ancestors k parents i) ≤ suc k
  length-ancestors zero i = omega arith
  length-ancestors (suc k) i = let h = length-ancestors-parent k (parent_of parents i) (length-ancestors k) in omega arith

  -- no chain is longer than all modules and what contains them
  pub length-chain_of : (m : ModuleId) → length (chain_of own parents containing m) ≤ suc (length parents + length containing)
  unfolding chain
  length-chain_of m =
      elim (cases_Bool (is_own own parents m)) [
        | inl e ↦
            let o = own_module m e in
            let h = length-ancestors m.index m.index in
            let eq : length (chain m) ≡ length (ancestors m.index parents m.index) + length containing = ap length (ap chain o.0 ∙ chain-own m.index o.1) ∙ simp (length-append, length-map) in
            omega (arith, eq, o.1)
        | inr e ↦ let h = length-from_module containing m in rw (chain-other m e) (omega arith)
      ]

  -- what follows the first of a list
  containing_all : (rest : List ModuleId) → IsChained chain rest → rest ≡ option_map_or chain (slice_get rest 0) []
  containing_all [] h = refl
  containing_all (x ∷ xs) h = sym h.0

  from_module-next : (xs : List ModuleId) (m : ModuleId) → IsChained chain xs → from_module xs m ≡ m ∷ option_map_or chain (after_module xs m) []
  from_module-next [] m h = refl
  from_module-next (x ∷ xs) m h =
      elim (cases_Bool (is_same_module m x)) [
        | inl e ↦ rw (e, same_module_equal m x e) (ap (λ l. x ∷ l) (containing_all xs h.1))
        | inr e ↦ rw e (from_module-next xs m h.1)
      ]

  own-next-parent : (k i : ℕ) (o : Option ℕ) → parent_of parents i ≡ o → i ≤ suc k → i < length parents → map (module_of own) (option_map_or (ancestors k parents) o []) ++ containing ≡ option_map_or chain (option_map_or (λ p. Some (module_of own p)) o (slice_get containing 0)) []
  own-next-parent k i None e a l = containing_all containing containing-chained
  own-next-parent k i (Some p) e a l =
      let h = lower i p e in
      sym (chain-own p (omega arith) ∙ ap (λ xs. map (module_of own) xs ++ containing) (more_steps p k p (omega arith) (omega arith)))

  own-next : (k i : ℕ) → i ≤ k → i < length parents → map (module_of own) (ancestors k parents i) ++ containing ≡ module_of own i ∷ option_map_or chain (option_map_or (λ p. Some (module_of own p)) (parent_of parents i) (slice_get containing 0)) []
  own-next zero i a l = ap (λ xs. map (module_of own) xs ++ containing) (more_steps 0 1 i a (omega arith)) ∙ ap (λ xs. module_of own i ∷ xs) (own-next-parent 0 i _ refl (omega arith) l)
  own-next (suc k) i a l = ap (λ xs. module_of own i ∷ xs) (own-next-parent k i _ refl a l)

  above-next : (m : ModuleId) → chain m ≡ m ∷ option_map_or chain (above_of own parents containing m) []
  above-next m =
      elim (cases_Bool (is_own own parents m)) [
        | inl e ↦
            let o = own_module m e in
            rw e (ap chain o.0 ∙ chain-own m.index o.1 ∙ own-next m.index m.index (omega arith) o.1 ∙ ap (λ x. x ∷ option_map_or chain (option_map_or (λ p. Some (module_of own p)) (parent_of parents m.index) (slice_get containing 0)) []) (sym o.0))
        | inr e ↦ rw e (chain-other m e ∙ from_module-next containing m containing-chained)
      ]

  -- a chain is its first module and the chain of the one above
  pub chain_of-next : (m : ModuleId) → chain_of own parents containing m ≡ m ∷ option_map_or (λ x. chain_of own parents containing x) (above_of own parents containing m) []
  unfolding chain
  chain_of-next m = above-next m

-- a module that contains the block is followed by the next of those
pub next_of-containing : (own : MapId) (parents : List (Option ℕ)) (containing : List ModuleId) → are_apart own containing ≡ true → (i : ℕ) (m : ModuleId)
    → slice_get containing i ≡ Some m → suc i ≡ next_of own parents containing m
next_of-containing own parents containing apart i m e =
    rw (apart_outside own containing apart m (found_at containing i m e)) (sym (after_index-at own containing apart i m e))

-- what follows a module of a chain, by its parent or by its place
pub above_of-next : (own : MapId) (parents : List (Option ℕ)) (containing : List ModuleId) (m : ModuleId) → parent_of parents m.index ≡ None ⊎ (is_own own parents m ≡ false)
    → slice_get containing (next_of own parents containing m) ≡ above_of own parents containing m
above_of-next own parents containing m h =
    elim (cases_Bool (is_own own parents m)) [
      | inl e ↦ elim h [
        | inl none ↦ rw (e, none) refl
        | inr outside ↦ cc (e, outside)
      ]
      | inr e ↦ rw e (after_index-module containing m)
    ]
