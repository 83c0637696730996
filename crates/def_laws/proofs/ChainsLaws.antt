-- The order of visibilities where a map grows: what a module of the map sees stays.
use Rattle.std.proofs.Common.{◌≡◌, ◌<◌, ◌≤◌, ℕ, zero, suc, true, false, List, [], ◌∷◌, ◌++◌, map, length, slice_get, Option, Some, None, refl, sym, ap, ◌∙◌, arith, inl, inr, length-append}
use Rattle.std.specs.Prelude.{nat_lt, ◌==◌, ◌&&◌, is_some}
use Rattle.std.specs.List.{list_any}
use Rattle.std.specs.Option.{option_map_or, option_and_then}
use Rattle.std.proofs.lemmas.Bool.{cases_Bool, and_parts, ltb-true, lt-ltb, ne_eqb}
use Rattle.def_ids.specs.declared.ids.MapId.{MapId}
use Rattle.def_ids.specs.declared.ids.ModuleId.{ModuleId}
use Rattle.def_ids.specs.Ids.{is_same_map, is_same_module, is_block_root}
use Rattle.def_bindings.specs.declared.visibility.Visibility.{Visibility}
use Rattle.def_bindings.specs.declared.visibility.Visibility.TheVariants.{Public, PubCrate, Module}
use Rattle.def_bindings.specs.ContainingLaws.{from_module-begins}
use Rattle.def_bindings.specs.IdLaws.{same_map_itself, same_map_equal}
use Rattle.def_bindings.specs.Chains.{first_no_root}
use Rattle.def_bindings.specs.Tree.{parent_of, ancestors, module_of, from_module, is_own, chain_of, AreParentsLower}
use Rattle.def_bindings.specs.Visibility.{home_of, is_visible_from}

get_kept : {X : Type 0} (xs ys : List X) (i : ℕ) → i < length xs → slice_get (xs ++ ys) i ≡ slice_get xs i
get_kept [] ys i l = absurd (omega arith)
get_kept (x ∷ xs) ys zero l = refl
get_kept (x ∷ xs) ys (suc i) l = get_kept xs ys i (omega arith)

ancestors_begin : (k : ℕ) (parents : List (Option ℕ)) (i : ℕ) → (rest : List ℕ) × (ancestors k parents i ≡ i ∷ rest)
ancestors_begin zero parents i = ([], refl)
ancestors_begin (suc k) parents i = (_, refl)

-- a list that begins with a module that is no block's root begins with its own home
home_begins : (m : ModuleId) (rest : List ModuleId) → is_block_root m ≡ false → first_no_root is_block_root (m ∷ rest) m ≡ m
home_begins m rest h = rw h refl

-- an index past some others is not the first
not_first : (n some : ℕ) → 0 < some → nat_lt n some ≡ false → (n == 0) ≡ false
not_first zero some l out = let wrong : true ≡ false = sym (lt-ltb 0 some l) ∙ out in cc
not_first (suc n) some l out = ne_eqb (suc n) 0 (λ e. cc)

module _ (own : MapId) (parents more : List (Option ℕ)) (containing : List ModuleId) (lower : AreParentsLower parents) where
  parent_kept : (i : ℕ) → i < length parents → parent_of (parents ++ more) i ≡ parent_of parents i
  parent_kept i l = ap (option_and_then (λ parent. parent)) (get_kept parents more i l)

  above_kept : (k i : ℕ) (o : Option ℕ) → parent_of parents i ≡ o → i < length parents → ((p : ℕ) → p < length parents → ancestors k (parents ++ more) p ≡ ancestors k parents p)
      → option_map_or (ancestors k (parents ++ more)) o [] ≡ option_map_or (ancestors k parents) o []
  above_kept k i None e l below = refl
  above_kept k i (Some p) e l below = let b = lower i p e in below p (omega arith)

  ancestors_kept : (k i : ℕ) → i < length parents → ancestors k (parents ++ more) i ≡ ancestors k parents i
  ancestors_kept zero i l = refl
  ancestors_kept (suc k) i l =
      ap (λ xs. i ∷ xs) (ap (λ o. option_map_or (ancestors k (parents ++ more)) o []) (parent_kept i l) ∙ above_kept k i (parent_of parents i) refl l (ancestors_kept k))

  -- a map's chains
  abbrev old_chain : ModuleId → List ModuleId
  old_chain = chain_of own parents containing

  abbrev new_chain : ModuleId → List ModuleId
  new_chain = chain_of own (parents ++ more) containing

  is_own-of : (ps : List (Option ℕ)) (m : ModuleId) → m.map ≡ own → m.index < length ps → is_own own ps m ≡ true
  is_own-of ps m same l = let e : is_same_map m.map own ≡ true = ap (λ x. is_same_map x own) same ∙ same_map_itself own in rw e (lt-ltb m.index (length ps) l)

  chain-by : (ps : List (Option ℕ)) (m : ModuleId) → is_own own ps m ≡ true → chain_of own ps containing m ≡ map (module_of own) (ancestors m.index ps m.index) ++ containing
  chain-by ps m e = rw e refl

  chain-else : (ps : List (Option ℕ)) (m : ModuleId) → is_own own ps m ≡ false → chain_of own ps containing m ≡ from_module containing m
  chain-else ps m e = rw e refl

  -- the chain of a module of the map stays
  chain_kept : (m : ModuleId) → m.map ≡ own → m.index < length parents → new_chain m ≡ old_chain m
  chain_kept m same l =
      let longer : length parents ≤ length (parents ++ more) = omega (arith, length-append parents more) in
      chain-by (parents ++ more) m (is_own-of (parents ++ more) m same (omega arith))
      ∙ ap (λ xs. map (module_of own) xs ++ containing) (ancestors_kept m.index m.index l)
      ∙ sym (chain-by parents m (is_own-of parents m same l))

  chain_begins : (ps : List (Option ℕ)) (m : ModuleId) → is_own own ps m ≡ true → (rest : List ModuleId) × (chain_of own ps containing m ≡ m ∷ rest)
  chain_begins ps m e =
      let b = ancestors_begin m.index ps m.index in
      let same : module_of own m.index ≡ m = ap (λ x. module_of x m.index) (sym (same_map_equal m.map own (and_parts (is_same_map m.map own) (nat_lt m.index (length ps)) e).0)) in
      (map (module_of own) b.0 ++ containing, chain-by ps m e ∙ ap (λ xs. map (module_of own) xs ++ containing) b.1 ∙ ap (λ x. x ∷ (map (module_of own) b.0 ++ containing)) same)

  late_home : (m : ModuleId) → 0 < length parents → is_own own parents m ≡ false → is_own own (parents ++ more) m ≡ true → home_of new_chain m ≡ home_of old_chain m
  late_home m some old new =
      let now = chain_begins (parents ++ more) m new in
      let was = from_module-begins containing m in
      let same : is_same_map m.map own ≡ true = (and_parts (is_same_map m.map own) (nat_lt m.index (length (parents ++ more))) new).0 in
      let out : nat_lt m.index (length parents) ≡ false = let h : is_own own parents m ≡ nat_lt m.index (length parents) = rw same refl in sym h ∙ old in
      let root : is_block_root m ≡ false = ap (λ b. b && is_some m.map.block) (not_first m.index (length parents) some out) in
      (ap (λ xs. first_no_root is_block_root xs m) now.1 ∙ home_begins m now.0 root)
      ∙ sym (ap (λ xs. first_no_root is_block_root xs m) (chain-else parents m old ∙ was.1) ∙ home_begins m was.0 root)

  home_kept : (m : ModuleId) → 0 < length parents → home_of new_chain m ≡ home_of old_chain m
  home_kept m some =
      elim (cases_Bool (is_own own parents m)) [
        | inl e ↦
            let p = and_parts (is_same_map m.map own) (nat_lt m.index (length parents)) e in
            ap (λ xs. first_no_root is_block_root xs m) (chain_kept m (same_map_equal m.map own p.0) (ltb-true m.index (length parents) p.1))
        | inr e ↦ elim (cases_Bool (is_own own (parents ++ more) m)) [
          | inl new ↦ late_home m some e new
          | inr none ↦ ap (λ xs. first_no_root is_block_root xs m) (chain-else (parents ++ more) m none ∙ sym (chain-else parents m e))
        ]
      ]

  -- what a module of the map sees stays
  pub sees_kept : (place : ModuleId) (vis : Visibility) → place.map ≡ own → place.index < length parents → is_visible_from new_chain place vis ≡ is_visible_from old_chain place vis
  sees_kept place (Module m) same l =
      ap (λ h. list_any (is_same_module h) (new_chain place)) (home_kept m (omega arith)) ∙ ap (list_any (is_same_module (home_of old_chain m))) (chain_kept place same l)
  sees_kept place PubCrate same l = refl
  sees_kept place Public same l = refl
